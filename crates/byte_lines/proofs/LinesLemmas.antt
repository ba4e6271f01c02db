-- Lemmas on the lines of bytes that come in pieces.
use Rattle.std.proofs.Common.{◌≡◌, ℕ, ◌==◌, ◌≢◌, Bool, true, false, if◌then◌else◌, List, [], ◌∷◌}
use Rattle.std.proofs.Common.{◌++◌, map, All, refl, sym, ap, ◌∙◌, append_assoc, append-nil, ◌-◌}
use Rattle.std.proofs.Common.{nat_lt, ◌<◌, length, length-append, arith}
use Rattle.std.proofs.Math.Seq.{get_or-append_seam, take-append_seam}
use Rattle.std.proofs.lemmas.Bool.{eqb-true, eqb-false, lt-ltb}
use Rattle.std.proofs.lemmas.Bool.Decides.{nat_tests}
use Rattle.std.proofs.lemmas.List.Elements.{All-head, All-tail, All-cons, All-nil, All-append}
use Rattle.byte_lines.specs.Lines.{line_feed, without_return, ended_lines, unended, last_line}
use Rattle.byte_lines.specs.Lines.{HasNoEnd, rejoined, IsSplitAtEnds, AreLinesOf}

-- the lines of two pieces after one byte, by whether it is an LF
lines_more : (v : Bool) (begun grown xs b : List ℕ)
    → ended_lines [] (xs ++ b) ≡ ended_lines [] xs ++ ended_lines (unended [] xs) b
    → ended_lines grown (xs ++ b) ≡ ended_lines grown xs ++ ended_lines (unended grown xs) b
    → (if v then without_return begun ∷ ended_lines [] (xs ++ b) else ended_lines grown (xs ++ b))
    ≡ (if v then without_return begun ∷ ended_lines [] xs else ended_lines grown xs)
    ++ ended_lines (if v then unended [] xs else unended grown xs) b
lines_more true begun grown xs b ends goes_on = ap (λ l. without_return begun ∷ l) ends
lines_more false begun grown xs b ends goes_on = goes_on

-- the lines of two pieces, one after the other
pub ended_lines-append : (begun a b : List ℕ)
    → ended_lines begun (a ++ b) ≡ ended_lines begun a ++ ended_lines (unended begun a) b
ended_lines-append begun [] b = refl
ended_lines-append begun (x ∷ xs) b =
    lines_more (x == line_feed) begun (begun ++ x ∷ []) xs b
    (ended_lines-append [] xs b)
    (ended_lines-append (begun ++ x ∷ []) xs b)

-- what stands begun after two pieces and one byte, by whether it is an LF
unended_more : (v : Bool) (grown xs b : List ℕ) → unended [] (xs ++ b) ≡ unended (unended [] xs) b
    → unended grown (xs ++ b) ≡ unended (unended grown xs) b
    → (if v then unended [] (xs ++ b) else unended grown (xs ++ b))
    ≡ unended (if v then unended [] xs else unended grown xs) b
unended_more true grown xs b ends goes_on = ends
unended_more false grown xs b ends goes_on = goes_on

-- what stands begun after two pieces
pub unended-append : (begun a b : List ℕ) → unended begun (a ++ b) ≡ unended (unended begun a) b
unended-append begun [] b = refl
unended-append begun (x ∷ xs) b =
    unended_more (x == line_feed) (begun ++ x ∷ []) xs b
    (unended-append [] xs b)
    (unended-append (begun ++ x ∷ []) xs b)

-- a byte that is no LF is told apart by the test
pub not_feed : (x : ℕ) → x ≢ line_feed → (x == line_feed) ≡ false
not_feed x h = grind (arith, nat_tests)

-- bytes without LF end no line
pub ended_lines-clean : (begun bytes : List ℕ) → HasNoEnd bytes → ended_lines begun bytes ≡ []
ended_lines-clean begun [] h = refl
ended_lines-clean begun (x ∷ xs) h =
    rw (not_feed x (All-head (λ b. b ≢ line_feed) x xs h))
    (ended_lines-clean (begun ++ x ∷ []) xs (All-tail (λ b. b ≢ line_feed) x xs h))

-- bytes without LF go on with the line that was begun
pub unended-clean : (begun bytes : List ℕ) → HasNoEnd bytes → unended begun bytes ≡ begun ++ bytes
unended-clean begun [] h = sym (append-nil begun)
unended-clean begun (x ∷ xs) h =
    rw (not_feed x (All-head (λ b. b ≢ line_feed) x xs h))
    (
    unended-clean (begun ++ x ∷ []) xs (All-tail (λ b. b ≢ line_feed) x xs h)
    ∙ append_assoc begun (x ∷ []) xs
    )

-- bytes up to the first LF end one line
pub ended_lines-piece : (begun piece more : List ℕ) → HasNoEnd piece
    → ended_lines begun (piece ++ line_feed ∷ more)
    ≡ without_return (begun ++ piece) ∷ ended_lines [] more
ended_lines-piece begun piece more h =
    ended_lines-append begun piece (line_feed ∷ more)
    ∙ ap
    (λ l. l ++ ended_lines (unended begun piece) (line_feed ∷ more))
    (ended_lines-clean begun piece h)
    ∙ ap (λ l. ended_lines l (line_feed ∷ more)) (unended-clean begun piece h)

-- after an LF nothing of the line before stands begun
pub unended-piece : (begun piece more : List ℕ)
    → unended begun (piece ++ line_feed ∷ more) ≡ unended [] more
unended-piece begun piece more = unended-append begun piece (line_feed ∷ more)

-- the lines of pieces that were joined with LFs are these pieces
pub ended_lines-rejoined : (pieces : List (List ℕ)) (rest : List ℕ)
    → All HasNoEnd pieces → HasNoEnd rest
    → ended_lines [] (rejoined pieces rest) ≡ map without_return pieces
ended_lines-rejoined [] rest h r = ended_lines-clean [] rest r
ended_lines-rejoined (p ∷ ps) rest h r =
    ended_lines-piece [] p (rejoined ps rest) (All-head HasNoEnd p ps h)
    ∙ ap (λ l. without_return p ∷ l) (ended_lines-rejoined ps rest (All-tail HasNoEnd p ps h) r)

-- what stands begun after them is the rest
pub unended-rejoined : (pieces : List (List ℕ)) (rest : List ℕ) → HasNoEnd rest
    → unended [] (rejoined pieces rest) ≡ rest
unended-rejoined [] rest r = unended-clean [] rest r
unended-rejoined (p ∷ ps) rest r =
    unended-piece [] p (rejoined ps rest) ∙ unended-rejoined ps rest r

-- bytes that are split at their LFs have these lines
pub lines_of_split : (bytes : List ℕ) (pieces : List (List ℕ)) (rest : List ℕ)
    → IsSplitAtEnds bytes pieces rest → AreLinesOf bytes pieces rest
lines_of_split bytes pieces rest s =
    let ended : ended_lines [] bytes ≡ map without_return pieces =
    ap (λ l. ended_lines [] l) s.whole
    ∙ ended_lines-rejoined pieces rest s.pieces_clean s.rest_clean in
    let last : unended [] bytes ≡ rest = ap (λ l. unended [] l) s.whole
    ∙ unended-rejoined pieces rest s.rest_clean in
    record {
      before_end = ended;
      at_end = ap (λ l. l ++ last_line (unended [] bytes)) ended
          ∙ ap (λ l. map without_return pieces ++ last_line l) last;
      begun = last;
    }

-- these bytes behind those that were begun can be split at their LFs
abbrev CanSplit : List ℕ → List ℕ → List ℕ → Type 0
CanSplit begun bytes rest = (pieces : List (List ℕ)) × IsSplitAtEnds (begun ++ bytes) pieces rest

-- one byte more in front, by whether it is an LF
split_more : (v : Bool) (x : ℕ) → (x == line_feed) ≡ v → (begun xs : List ℕ) → HasNoEnd begun
    → CanSplit [] xs (unended [] xs)
    → (HasNoEnd (begun ++ x ∷ []) → CanSplit (begun ++ x ∷ []) xs (unended (begun ++ x ∷ []) xs))
    → CanSplit begun (x ∷ xs) (if v then unended [] xs else unended (begun ++ x ∷ []) xs)
split_more true x e begun xs h (pieces, s) more =
    let feed : x ≡ line_feed = eqb-true x line_feed e in (
      begun ∷ pieces,
      record {
        whole = ap (λ b. begun ++ b ∷ xs) feed ∙ ap (λ l. begun ++ line_feed ∷ l) s.whole;
        pieces_clean = All-cons HasNoEnd begun pieces h s.pieces_clean;
        rest_clean = s.rest_clean;
      },
    )
split_more false x e begun xs h s more =
    let one : HasNoEnd (x ∷ []) =
    All-cons (λ b. b ≢ line_feed) x [] (eqb-false x line_feed e) (All-nil (λ b. b ≢ line_feed)) in
    let (pieces, found) = more (All-append (λ b. b ≢ line_feed) begun (x ∷ []) h one) in (
      pieces,
      record {
        whole = sym (append_assoc begun (x ∷ []) xs) ∙ found.whole;
        pieces_clean = found.pieces_clean;
        rest_clean = found.rest_clean;
      },
    )

-- all bytes can be split at their LFs
pub can_split : (begun bytes : List ℕ) → HasNoEnd begun → CanSplit begun bytes (unended begun bytes)
can_split begun [] h =
    ([], record { whole = append-nil begun; pieces_clean = All-nil HasNoEnd; rest_clean = h })
can_split begun (x ∷ xs) h =
    split_more (x == line_feed) x refl begun xs h
    (can_split [] xs (All-nil (λ b. b ≢ line_feed)))
    (λ more. can_split (begun ++ x ∷ []) xs more)

-- how long a line with one more byte is
one_more : (line : List ℕ) (last : ℕ) → length (line ++ last ∷ []) - 1 ≡ length line
one_more line last = omega (arith, length-append line (last ∷ []))

-- whether a line with one more byte is empty
none_empty : (line : List ℕ) (last : ℕ) → nat_lt 0 (length (line ++ last ∷ [])) ≡ true
none_empty line last =
    let some : 0 < length (line ++ last ∷ []) =
    omega (arith, length-append line (last ∷ [])) in lt-ltb 0 (length (line ++ last ∷ [])) some

-- a CR at the end is dropped
pub without_return-dropped : (line : List ℕ) → without_return (line ++ 13 ∷ []) ≡ line
without_return-dropped line =
    rw (none_empty line 13, one_more line 13, get_or-append_seam line 13 [] 0)
    (take-append_seam line (13 ∷ []))

-- another byte at the end stays, and the bytes before it
pub without_return-kept : (line : List ℕ) (last : ℕ) → last ≢ 13
    → without_return (line ++ last ∷ []) ≡ line ++ last ∷ []
without_return-kept line last h =
    let other : (last == 13) ≡ false = grind (arith, nat_tests) in
    rw (none_empty line last, one_more line last, get_or-append_seam line last [] 0, other) refl
