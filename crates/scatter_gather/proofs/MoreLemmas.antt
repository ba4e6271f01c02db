-- Whether the answer has another hit.
use Rattle.std.proofs.Common.{◌≡◌, ℕ, ◌+◌, ◌-◌, ◌≤◌, List, [], ◌∷◌, length, take, drop, refl, sym, ap, ◌∙◌, arith, zero, suc, true, false, Bool, Option, Some, None, inl, inr}
use Rattle.std.specs.Prelude.{nat_lt, nat_le, ◌&&◌, min, sum_by, is_some}
use Rattle.std.specs.List.{AllByRecursion, flat_map, list_any, list_all}
use Rattle.std.proofs.lemmas.Bool.{ltb-true, both_ways, cases_eq, and_cases, ltb-false, or_cases, or_parts, and_parts, lt-ltb, le-ltb, leb-true}
use Rattle.std.proofs.lemmas.List.{length-take, length-drop, length-append}
use Rattle.std.proofs.lemmas.List.Sums.{sum_by-cons}
use Rattle.std.proofs.lemmas.List.Sorted.{length_permutation}
use Rattle.hamming_model.specs.declared.hit.Hit.{Hit}
use Rattle.hamming_model.specs.Scan.{in_order}
use Rattle.hamming_model.proofs.OrderLemmas.{in_order_permutation}
use Rattle.hit_source.specs.Sources.{Asked, Standing, IsLawful}
use Rattle.hit_source.specs.Moves.{first_of}
use Rattle.scatter_gather.specs.Gathering.{Source, sources_of, Gathering, Gathered, seen, all_asked, merged, left_hits, answer_of, answer_left, reaches_by_rows}
use Rattle.scatter_gather.specs.Due.{has_head, some_due, any_may_have_next}
use Rattle.scatter_gather.specs.Kept.{IsGathering, AreLawful}
use Rattle.scatter_gather.specs.Moves.{Waited}
use Rattle.scatter_gather.proofs.KeepLemmas.{asked_seen}
use Rattle.scatter_gather.proofs.ReadyLemmas.{all_lawful}
use Rattle.scatter_gather.proofs.GiveLemmas.{nobody, none_at_end}

pub length_in_order : (hits : List Hit) → length (in_order hits) ≡ length hits
length_in_order hits = length_permutation hits (in_order hits) (in_order_permutation hits)

none_waits : (hits : List Hit) (n : ℕ) (others : List Hit) → is_some (first_of hits) ≡ true → hits ≡ take n others
    → 1 ≤ length others
none_waits [] n others e w = cc
none_waits (hit ∷ hits) zero others e w = cc
none_waits (hit ∷ hits) (suc n) [] e w = cc
none_waits (hit ∷ hits) (suc n) (other ∷ others) e w = omega arith

-- where a hit waits some hit is left
some_left : (sources : List Source) → AreLawful sources → list_any has_head sources ≡ true
    → 1 ≤ length (left_hits sources)
some_left [] law e = cc
some_left (s ∷ sources) law e = elim (or_cases (has_head s) (list_any has_head sources) e) [
  | inl first ↦ omega (
    arith,
    length-append (drop s.standing.given s.asked.hits)
        (left_hits sources),
    none_waits s.standing.waiting (length s.standing.waiting)
        (drop s.standing.given s.asked.hits) first law.0.window,
  )
  | inr later ↦ omega (
    arith,
    length-append (drop s.standing.given s.asked.hits)
        (left_hits sources),
    some_left sources law.1 later,
  )
]

-- the answer has another hit where one waits and the limit isn't reached
pub more_waits : (g : Gathering) → IsGathering g → AreLawful g.sources → (g.given ≡ g.limit → ⊥)
    → list_any has_head g.sources ≡ true → nat_lt g.given (length (answer_of g)) ≡ true
more_waits g is law more waits =
    let all = merged (all_asked g.sources) in
    let some = some_left g.sources law waits in
    let left : length all - g.given ≡ length (left_hits g.sources) = sym (length-drop g.given all) ∙ ap length is.merge
    ∙ length_in_order (left_hits g.sources) in
    lt-ltb g.given (length (answer_of g)) (omega (arith, length-take g.limit all, is.within, more, some, left))

no_first : (hits : List Hit) → first_of hits ≡ None → length hits ≡ 0
no_first [] e = refl
no_first (hit ∷ hits) e = cc

-- the answer has no other hit where none of it is left
pub no_more : (g : Gathering) → first_of (answer_left g) ≡ None → nat_lt g.given (length (answer_of g)) ≡ false
no_more g none =
    le-ltb g.given (length (answer_of g))
    (omega (arith, length-drop g.given (answer_of g), no_first (answer_left g) none))

no_heads : (sources : List Source) → list_any has_head sources ≡ false
    → AllByRecursion (λ s. first_of s.standing.waiting ≡ None) sources
no_heads [] e = tt
no_heads (s ∷ sources) e =
    let both = or_parts (has_head s) (list_any has_head sources) e in
    (no_first_in (first_of s.standing.waiting) both.0, no_heads sources both.1)
  where
    no_first_in : (head : Option Hit) → is_some head ≡ false → head ≡ None
    no_first_in None e = refl
    no_first_in (Some hit) e = cc

-- the rows of sources whose hits are all their rows are as many as all hits
all_rows : (sources : List Source) → AreLawful sources → list_all (λ (s : Source). s.asked.near) sources ≡ true
    → length (flat_map (λ (a : Asked). a.hits) (all_asked sources)) ≡ sum_by (λ (s : Source). s.asked.rows) sources
all_rows [] law near = refl
all_rows (s ∷ sources) law near =
    let both = and_parts s.asked.near (list_all (λ (s : Source). s.asked.near) sources) near in
    omega (
      arith,
      length-append s.asked.hits (flat_map (λ (a : Asked). a.hits) (all_asked sources)),
      (law.0.asked.near both.0).all_rows,
      all_rows sources law.1 both.1,
      sum_by-cons
          (λ (s : Source). s.asked.rows) s sources,
    )

-- the answer has another hit where every row is a hit, there are as many as the limit, and it isn't reached
pub more_rows : (g : Gathering) → IsGathering g → AreLawful g.sources → (g.given ≡ g.limit → ⊥)
    → reaches_by_rows g ≡ true → nat_lt g.given (length (answer_of g)) ≡ true
more_rows g is law more near =
    let both = and_parts (list_all (λ (s : Source). s.asked.near) g.sources)
    (nat_le g.limit (sum_by (λ (s : Source). s.asked.rows) g.sources)) near in
    let all = flat_map (λ (a : Asked). a.hits) (all_asked g.sources) in
    let enough : g.limit ≤ length (in_order all) =
    omega (arith, leb-true _ _ both.1, all_rows g.sources law both.0, length_in_order all) in
    lt-ltb g.given (length (answer_of g)) (omega (arith, length-take g.limit (in_order all), is.within, more, enough))

-- the same of a gathering that was opened, for `more`
pub seen_waits : {S : Type 0} (asks : S → Asked) (stands : S → Standing) (g : Gathered S)
    → ((x : S) → IsLawful (asks x) (stands x)) → IsGathering (seen asks stands g) → (g.given ≡ g.limit → ⊥)
    → list_any has_head (sources_of asks stands g.sources) ≡ true
    → nat_lt g.given (length (answer_of (seen asks stands g))) ≡ true
seen_waits asks stands g law is more waits =
    more_waits (seen asks stands g) is (all_lawful asks stands law g.sources) more waits

-- nothing is due, no head waits, and the limit isn't reached
pub seen_end : {S : Type 0} (asks : S → Asked) (stands : S → Standing) (g : Gathered S)
    → ((x : S) → IsLawful (asks x) (stands x)) → IsGathering (seen asks stands g)
    → any_may_have_next (sources_of asks stands g.sources) ≡ false
    → list_any has_head (sources_of asks stands g.sources) ≡ false
    → nat_lt g.given (length (answer_of (seen asks stands g))) ≡ false
seen_end asks stands g law is held none =
    no_more (seen asks stands g)
    (none_at_end (seen asks stands g) nobody is (all_lawful asks stands law g.sources) held (no_heads _ none))

-- nothing is due, and no head waits
pub none_due_more : {S : Type 0} (asks : S → Asked) (stands : S → Standing) (g : Gathered S)
    → ((x : S) → IsLawful (asks x) (stands x)) → IsGathering (seen asks stands g) → (g.given ≡ g.limit → ⊥)
    → some_due (seen asks stands g) ≡ false → list_any has_head (sources_of asks stands g.sources) ≡ false
    → nat_lt g.given (length (answer_of (seen asks stands g))) ≡ false
none_due_more asks stands g law is more held none =
    elim (and_cases (nat_lt g.given g.limit) (any_may_have_next (sources_of asks stands g.sources)) held) [
      | inl reached ↦ absurd (more (omega (arith, is.within, ltb-false g.given g.limit reached)))
      | inr nobody ↦ seen_end asks stands g law is nobody none
    ]

-- whether the answer has another hit is as it was
pub waited_more : {S : Type 0} (asks : S → Asked) (stands : S → Standing) (old new : Gathered S) (from to : List ℕ)
    → Waited asks stands old new from to
    → nat_lt new.given (length (answer_of (seen asks stands new))) ≡ nat_lt old.given
    (length (answer_of (seen asks stands old)))
waited_more asks stands old new from to waited =
    let same : all_asked (sources_of asks stands new.sources) ≡ all_asked (sources_of asks stands old.sources) =
    asked_seen asks stands new.sources ∙ waited.asked ∙ sym (asked_seen asks stands old.sources) in
    rw (same, waited.limit, waited.given)

-- the limit isn't reached, as before
pub waited_open : {S : Type 0} (asks : S → Asked) (stands : S → Standing) (old new : Gathered S) (from to : List ℕ)
    → Waited asks stands old new from to → (old.given ≡ old.limit → ⊥) → new.given ≡ new.limit → ⊥
waited_open asks stands old new from to waited more e = more (omega (arith, waited.given, waited.limit, e))

-- the least of a sum and the greatest number, one number more
pub rows_step : (most rows sum more at one result : ℕ) → rows ≡ min sum most → more ≡ sum + at → at ≡ one
    → result ≡ min (rows + one) most → result ≡ min more most
rows_step most rows sum more at one result was next here all = grind arith

-- where every row is a hit and there are as many as the limit, the answer ends at the limit alone
pub ends_at_limit : (g : Gathering) → IsGathering g → AreLawful g.sources → reaches_by_rows g ≡ true
    → first_of (answer_left g) ≡ None → g.given ≡ g.limit
ends_at_limit g is law near none = elim (cases_eq g.given g.limit) [
  | inl same ↦ same
  | inr more ↦ absurd (both_ways (nat_lt g.given (length (answer_of g))) (no_more g none)
      (more_rows g is law more near))
]

-- nothing is due at the limit
pub not_due : (given limit : ℕ) (other : Bool) → given ≡ limit → (nat_lt given limit && other) ≡ true → ⊥
not_due given limit other same due =
    omega (arith, same, ltb-true given limit (and_parts (nat_lt given limit) other due).0)

rows_same : (old new : List Source) → all_asked new ≡ all_asked old
    → (list_all (λ (s : Source). s.asked.near) new ≡ list_all (λ (s : Source). s.asked.near) old) ×
    (sum_by (λ (s : Source). s.asked.rows) new ≡ sum_by (λ (s : Source). s.asked.rows) old)
rows_same [] [] same = (refl, refl)
rows_same [] (t ∷ new) same = cc
rows_same (s ∷ old) [] same = cc
rows_same (s ∷ old) (t ∷ new) same =
    let first : t.asked ≡ s.asked = cc in
    let rest : all_asked new ≡ all_asked old = cc in
    let both = rows_same old new rest in (
      ap (λ (a : Asked). a.near && list_all (λ (s : Source). s.asked.near) new) first
          ∙ ap (λ b. s.asked.near && b) both.0,
      sum_by-cons (λ (s : Source). s.asked.rows) t new
          ∙ ap (λ (a : Asked). a.rows + sum_by (λ (s : Source). s.asked.rows) new) first
          ∙ ap (λ n. s.asked.rows + n) both.1 ∙ sym (sum_by-cons (λ (s : Source). s.asked.rows) s old),
    )

-- whether the rows reach the limit is as it was
pub waited_rows : {S : Type 0} (asks : S → Asked) (stands : S → Standing) (old new : Gathered S) (from to : List ℕ)
    → Waited asks stands old new from to
    → reaches_by_rows (seen asks stands new) ≡ reaches_by_rows (seen asks stands old)
waited_rows asks stands old new from to waited =
    let same : all_asked (sources_of asks stands new.sources) ≡ all_asked (sources_of asks stands old.sources) =
    asked_seen asks stands new.sources ∙ waited.asked ∙ sym (asked_seen asks stands old.sources) in
    let both = rows_same (sources_of asks stands old.sources) (sources_of asks stands new.sources) same in
    rw (both.0, both.1, waited.limit)
