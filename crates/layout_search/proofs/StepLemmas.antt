-- The first of a list that serves, and searches with one task.
use Rattle.std.proofs.Common.{◌≡◌, ℕ, zero, suc, ◌+◌, ◌-◌, ◌<◌, nat_lt, Bool, true, false, cond, List, [], ◌∷◌, ◌++◌, map, refl, sym, ◌∙◌, ap, arith, None, Some}
use Rattle.std.specs.List.{find, flat_map, range_with_len}
use Rattle.std.proofs.lemmas.List.Concat.{flat_map-append, flat_map_single}
use Rattle.std.proofs.lemmas.List.Folds.{find-append}
use Rattle.std.specs.Option.{option_or}
use Rattle.exchange_model.specs.Exchanges.{exchanged}
use Rattle.part_layout.specs.Laid.{Laid}
use Rattle.exchange_model.specs.declared.position_exchange.PositionExchange.{PositionExchange}
use Rattle.layout_search.specs.Ready.{SameTask, cost_with}
use Rattle.exchange_model.specs.Rounds.{first_below}
use Rattle.layout_search.specs.declared.search.Search.{Search}

-- the cost is of the rows and samples
pub same_cost : {W : ℕ} (old new : Search W) (parts : List (List ℕ)) → SameTask old new → cost_with new parts ≡ cost_with old parts
same_cost {W} old new parts same = rw (same.bits, same.rows, same.samples) refl

-- ---- the first that serves among what a function gives for the numbers in order

range_split : (from n m : ℕ) → range_with_len from (n + m) ≡ range_with_len from n ++ range_with_len (from + n) m
range_split from zero m = let e : 0 + m ≡ m = omega arith in let f : from + 0 ≡ from = omega arith in rw (e, f) refl
range_split from (suc n) m =
    let e : suc n + m ≡ suc (n + m) = omega arith in
    let f : from + 1 + n ≡ from + suc n = omega arith in
    rw e (ap (λ xs. from ∷ xs) (range_split (from + 1) n m ∙ ap (λ k. range_with_len (from + 1) n ++ range_with_len k m) f))

-- none up to a number, and none at it
pub none_more : {X : Type 0} (test : X → Bool) (f : ℕ → List X) (n : ℕ) → find test (flat_map f (range_with_len 0 n)) ≡ None → find test (f n) ≡ None
    → find test (flat_map f (range_with_len 0 (n + 1))) ≡ None
none_more test f n before here =
    ap (λ ks. find test (flat_map f ks)) (range_split 0 n 1) ∙ ap (find test) (flat_map-append f (range_with_len 0 n) (range_with_len (0 + n) 1))
    ∙ find-append test (flat_map f (range_with_len 0 n)) (flat_map f (range_with_len (0 + n) 1))
    ∙ ap (λ o. option_or o (find test (flat_map f (range_with_len (0 + n) 1)))) before
    ∙ (let e : 0 + n ≡ n = omega arith in rw e (find-append test (f n) [] ∙ ap (λ o. option_or o (find test [])) here))

-- none up to a number, and one at it
pub some_first : {X : Type 0} (test : X → Bool) (f : ℕ → List X) (n end : ℕ) (x : X) → n < end → find test (flat_map f (range_with_len 0 n)) ≡ None
    → find test (f n) ≡ Some x
    → find test (flat_map f (range_with_len 0 end)) ≡ Some x
some_first test f n end x below before here =
    let more : end ≡ n + suc (end - n - 1) = omega arith in
    let e : 0 + n ≡ n = omega arith in
    ap (λ k. find test (flat_map f (range_with_len 0 k))) more
    ∙ ap (λ ks. find test (flat_map f ks)) (range_split 0 n (suc (end - n - 1)))
    ∙ ap (find test) (flat_map-append f (range_with_len 0 n) (range_with_len (0 + n) (suc (end - n - 1))))
    ∙ find-append test (flat_map f (range_with_len 0 n)) (flat_map f (range_with_len (0 + n) (suc (end - n - 1))))
    ∙ ap (λ o. option_or o (find test (flat_map f (range_with_len (0 + n) (suc (end - n - 1)))))) before
    ∙ rw e (find-append test (f n) (flat_map f (range_with_len (n + 1) (end - n - 1)))
    ∙ ap (λ o. option_or o (find test (flat_map f (range_with_len (n + 1) (end - n - 1))))) here)

-- the same where the function gives one for each number
pub none_more_map : {X : Type 0} (test : X → Bool) (f : ℕ → X) (n : ℕ) → find test (map f (range_with_len 0 n)) ≡ None → test (f n) ≡ false
    → find test (map f (range_with_len 0 (n + 1))) ≡ None
none_more_map test f n before here =
    ap (find test) (sym (flat_map_single f (range_with_len 0 (n + 1))))
    ∙ none_more test (λ k. f k ∷ []) n (ap (find test) (flat_map_single f (range_with_len 0 n)) ∙ before) (rw here refl)

pub some_first_map : {X : Type 0} (test : X → Bool) (f : ℕ → X) (n end : ℕ) → n < end → find test (map f (range_with_len 0 n)) ≡ None → test (f n) ≡ true
    → find test (map f (range_with_len 0 end)) ≡ Some (f n)
some_first_map test f n end below before here =
    ap (find test) (sym (flat_map_single f (range_with_len 0 end)))
    ∙ some_first test (λ k. f k ∷ []) n end (f n) below (ap (find test) (flat_map_single f (range_with_len 0 n)) ∙ before) (rw here refl)

pub find_agrees : {X : Type 0} (one other : X → Bool) → ((x : X) → one x ≡ other x) → (xs : List X) → find one xs ≡ find other xs
find_agrees one other agree [] = refl
find_agrees one other agree (x ∷ xs) = ap (λ b. cond b (Some x) (find one xs)) (agree x)
    ∙ ap (λ o. cond (other x) (Some x) o) (find_agrees one other agree xs)

-- ---- searches with one task

pub same_trans : {W : ℕ} (one two three : Search W) → SameTask one two → SameTask two three → SameTask one three
same_trans {W} one two three a b = record { bits = b.bits ∙ a.bits; rows = b.rows ∙ a.rows; samples = b.samples ∙ a.samples }

module _ {W : ℕ} (old now : Search W) (bound : ℕ) (same : SameTask old now) (layout : now.layout ≡ old.layout) where
  pub same_test : (e : PositionExchange) → nat_lt (cost_with now (exchanged now.layout.parts e)) bound
      ≡ nat_lt (cost_with old (exchanged old.layout.parts e)) bound
  same_test e = ap (λ n. nat_lt n bound) (same_cost old now (exchanged now.layout.parts e) same
      ∙ ap (λ (l : Laid). cost_with old (exchanged l.parts e)) layout)

  pub same_first : (list : List PositionExchange) → first_below (cost_with now) now.layout.parts bound list
      ≡ first_below (cost_with old) old.layout.parts bound list
  same_first list = find_agrees (λ e. nat_lt (cost_with now (exchanged now.layout.parts e)) bound)
      (λ e. nat_lt (cost_with old (exchanged old.layout.parts e)) bound) same_test list
