-- The text of a list of pieces, one piece more at a time.
use Rattle.std.proofs.Common.{◌≡◌, ℕ, zero, suc, ◌+◌, ◌<◌, ◌≤◌, min, List, [], ◌∷◌, ◌++◌, map, length, take, get_or, decimal, refl, sym, ◌∙◌, ap, arith, append_assoc, length-append}
use Rattle.std.specs.List.{flat_map, join_with_byte}
use Rattle.std.proofs.lemmas.Grind.{flat_map-append}
use Rattle.std.proofs.lemmas.Fmt.{length-decimal-le}
use Rattle.std.proofs.lemmas.List.{map-append, length-map, length-take-le, take_more}
use Rattle.part_layout.specs.Kept.{mark_before}

-- a piece after others
join_more : (c : ℕ) (xs : List (List ℕ)) (x : List ℕ) → 0 < length xs → join_with_byte c (xs ++ x ∷ []) ≡ join_with_byte c xs ++ c ∷ x
join_more c [] x some = absurd (omega arith)
join_more c (a ∷ []) x some = refl
join_more c (a ∷ b ∷ xs) x some =
    ap (λ ys. a ++ c ∷ ys) (join_more c (b ∷ xs) x (omega arith)) ∙ sym (append_assoc a (c ∷ join_with_byte c (b ∷ xs)) (c ∷ x))

-- the mark before a piece is there but before the first
pub length-mark_before : (i c : ℕ) → length (mark_before i c) ≡ min i 1
length-mark_before zero c = omega arith
length-mark_before (suc i) c = omega arith

-- one piece more, with its mark
join_step : {X : Type 0} (c : ℕ) (f : X → List ℕ) (xs : List X) (i : ℕ) (d : X) → i < length xs
    → join_with_byte c (map f (take (i + 1) xs)) ≡ join_with_byte c (map f (take i xs)) ++ (mark_before i c ++ f (get_or xs i d))
join_step c f [] i d inside = absurd (omega arith)
join_step c f (x ∷ xs) zero d inside = refl
join_step c f (x ∷ xs) (suc i) d inside =
    let sized = length-map (take (suc i) (x ∷ xs)) f in
    let cut = length-take-le (suc i) (x ∷ xs) (omega arith) in
    ap (λ ys. join_with_byte c (map f ys)) (take_more (x ∷ xs) (suc i) d inside)
    ∙ ap (join_with_byte c) (map-append f (take (suc i) (x ∷ xs)) (get_or (x ∷ xs) (suc i) d ∷ []))
    ∙ join_more c (map f (take (suc i) (x ∷ xs))) (f (get_or (x ∷ xs) (suc i) d)) (omega arith)

-- what stands in a buffer once a mark and a piece are written
pub next_piece : {X : Type 0} (c : ℕ) (f : X → List ℕ) (xs : List X) (i : ℕ) (d : X) (start before marked after piece : List ℕ)
    → i < length xs → piece ≡ f (get_or xs i d) → before ≡ start ++ join_with_byte c (map f (take i xs)) → marked ≡ before ++ mark_before i c
    → after ≡ marked ++ piece → after ≡ start ++ join_with_byte c (map f (take (i + 1) xs))
next_piece c f xs i d start before marked after piece inside is_piece so_far is_marked written =
    written
    ∙ ap (λ ys. ys ++ piece) is_marked
    ∙ ap (λ ys. (ys ++ mark_before i c) ++ piece) so_far
    ∙ ap (λ ys. ((start ++ join_with_byte c (map f (take i xs))) ++ mark_before i c) ++ ys) is_piece
    ∙ append_assoc (start ++ join_with_byte c (map f (take i xs))) (mark_before i c) (f (get_or xs i d))
    ∙ append_assoc start (join_with_byte c (map f (take i xs))) (mark_before i c ++ f (get_or xs i d))
    ∙ ap (λ ys. start ++ ys) (sym (join_step c f xs i d inside))

-- the text of a position is at most three bytes long
pub piece_short : (n : ℕ) (bytes : List ℕ) → n < 1000 → bytes ≡ decimal n → length bytes ≤ 3
piece_short n bytes small written =
    let bound = length-decimal-le 3 n (omega arith) (omega arith) (omega arith) in omega (arith, ap length written)

-- the positions of one part more
pub flat_step : (xs : List (List ℕ)) (i : ℕ) → i < length xs
    → length (flat_map (λ part. part) (take (i + 1) xs)) ≡ length (flat_map (λ part. part) (take i xs)) + length (get_or xs i [])
flat_step xs i inside =
    let cut = ap (λ ys. length (flat_map (λ part. part) ys)) (take_more xs i [] inside) in
    let both = ap length (flat_map-append (λ part. part) (take i xs) (get_or xs i [] ∷ [])) in
    let sum = length-append (flat_map (λ part. part) (take i xs)) (get_or xs i [] ++ []) in
    let last = length-append (get_or xs i []) [] in
    omega arith
