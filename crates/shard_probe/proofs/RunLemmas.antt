-- Runs of posting lists, and what is found in them.
use Rattle.std.proofs.Common.{◌≡◌, ℕ, ◌+◌, ◌-◌, ◌<◌, ◌≤◌, Bool, true, false, cond, List, [], ◌∷◌, ◌++◌, length, map, filter, take, drop, get_or}
use Rattle.std.proofs.Common.{refl, sym, ap, ◌∙◌, arith}
use Rattle.std.specs.Prelude.{All, Some, None}
use Rattle.std.specs.Option.{option_to_list}
use Rattle.std.proofs.lemmas.List.{take_more, take-map, drop-map, map-append, length-map, length-append, length-drop}
use Rattle.std.proofs.lemmas.List.{length-take-le, take-append-drop, drop-take, take-take, drop-drop}
use Rattle.std.proofs.lemmas.List.Elements.{All-same, All-take, All-drop, All-from_recursion, filter-append}
use Rattle.std.proofs.lemmas.List.Sums.{length-filter, count_by-le-length}
use Rattle.hamming_model.specs.Codes.{StandsFor}
use Rattle.search_model.specs.Reading.{unpadded}
use Rattle.shard_version.specs.Tables.{AreStored}

-- a run of the entries of a list keeps a run of its rows
pub run_cut : (bits from count : ℕ) (entries run all : List (ℕ × List ℕ)) → all ≡ entries → run ≡ take count (drop from all)
    → map (unpadded bits) run ≡ take count (drop from (map (unpadded bits) entries))
run_cut bits from count entries run all same is =
    ap (map (unpadded bits)) (is ∙ ap (λ xs. take count (drop from xs)) same)
    ∙ sym (take-map (unpadded bits) count (drop from entries))
    ∙ ap (take count) (sym (drop-map (unpadded bits) from entries))

-- and each of its codes is kept
pub run_kept : (words bits from count : ℕ) (run all : List (ℕ × List ℕ)) → AreStored words bits all
    → run ≡ take count (drop from all)
    → All (λ entry. StandsFor words bits entry.1 (take bits entry.1)) run
run_kept words bits from count run all kept is =
    All-same (λ (entry : ℕ × List ℕ). StandsFor words bits entry.1 (take bits entry.1)) run (take count (drop from all)) is
    (All-take (λ (entry : ℕ × List ℕ). StandsFor words bits entry.1 (take bits entry.1)) count (drop from all)
    (All-drop (λ (entry : ℕ × List ℕ). StandsFor words bits entry.1 (take bits entry.1)) from all
    (All-from_recursion (λ (entry : ℕ × List ℕ). StandsFor words bits entry.1 (take bits entry.1)) all kept)))

-- a run of postings is as long as it was asked
pub run_size : (bits from count : ℕ) (run list : List (ℕ × List ℕ)) → from + count ≤ length list
    → map (unpadded bits) run ≡ take count (drop from list) → length run ≡ count
run_size bits from count run list within is =
    let mapped = length-map run (unpadded bits) in
    let same = ap length is in
    let size = length-take-le count (drop from list) (omega (arith, length-drop from list)) in
    omega arith

-- what is left of a list is its next run and what is left then
pub rest_cut : {X : Type 0} (list : List X) (next size count : ℕ) → next + count ≤ size
    → drop next (take size list) ≡ take count (drop next list) ++ drop (next + count) (take size list)
rest_cut list next size count within =
    let all : next + (size - next) ≡ size = omega arith in
    sym (take-append-drop count (drop next (take size list)))
    ∙ ap (λ xs. take count xs ++ drop count (drop next (take size list)))
    (ap (λ n. drop next (take n list)) (sym all) ∙ drop-take next (size - next) list)
    ∙ ap (λ xs. xs ++ drop count (drop next (take size list)))
    (take-take count (size - next) (drop next list) (omega arith))
    ∙ ap (λ xs. take count (drop next list) ++ xs) (drop-drop count next (take size list))

module _ {X Y : Type 0} (h : X → Y) (test : X → Bool) where
  -- what passes a test among elements and more elements
  pub passed_joined : (xs ys : List X) → map h (filter test (xs ++ ys)) ≡ map h (filter test xs) ++ map h (filter test ys)
  passed_joined xs ys = ap (map h) (filter-append test xs ys) ∙ map-append h (filter test xs) (filter test ys)

  passed_one : (x : X) → map h (filter test (x ∷ [])) ≡ option_to_list (cond (test x) (Some (h x)) None)
  passed_one x = go (test x)
    where
      go : (b : Bool) → map h (cond b (x ∷ []) []) ≡ option_to_list (cond b (Some (h x)) None)
      go true = refl
      go false = refl

  module _ {P : Type 0} (f : P → X) (run : List P) where
    -- at most all of a run passes
    pub passed_few : length (map h (filter test (map f run))) ≤ length run
    passed_few =
        let passed = length-map (filter test (map f run)) h in
        let mapped = length-map run f in
        let number = length-filter test (map f run) in
        let few = count_by-le-length test (map f run) in
        omega arith

    -- and of its first so many at most as much as of all
    pub passed_first : (count : ℕ) → length (map h (filter test (map f (take count run)))) ≤ length (map h (filter test (map f run)))
    passed_first count =
        let cut = ap (λ xs. length (map h (filter test (map f xs)))) (sym (take-append-drop count run)) in
        let joined = ap (λ xs. length (map h (filter test xs))) (map-append f (take count run) (drop count run)) in
        let passed = ap length (passed_joined (map f (take count run)) (map f (drop count run))) in
        let both = length-append (map h (filter test (map f (take count run)))) (map h (filter test (map f (drop count run)))) in
        omega arith

    module _ (i : ℕ) (item : P) (less : i < length run) (is : item ≡ get_or run i item) where
      -- one element more passes or doesn't
      pub passed_more : map h (filter test (map f (take (i + 1) run)))
          ≡ map h (filter test (map f (take i run))) ++ option_to_list (cond (test (f item)) (Some (h (f item))) None)
      passed_more =
          ap (λ xs. map h (filter test (map f xs))) (take_more run i item less ∙ ap (λ x. take i run ++ x ∷ []) (sym is))
          ∙ ap (λ xs. map h (filter test xs)) (map-append f (take i run) (item ∷ []))
          ∙ passed_joined (map f (take i run)) (f item ∷ [])
          ∙ ap (λ xs. map h (filter test (map f (take i run))) ++ xs) (passed_one (f item))

      pub passed_room : length (map h (filter test (map f (take i run))))
          + length (option_to_list (cond (test (f item)) (Some (h (f item))) None))
          ≤ length (map h (filter test (map f run)))
      passed_room =
          let more = ap length passed_more in
          let both = length-append (map h (filter test (map f (take i run)))) (option_to_list (cond (test (f item)) (Some (h (f item))) None)) in
          let first = passed_first (i + 1) in
          omega arith
