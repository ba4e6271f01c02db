-- Sources without floors are not due.
use Rattle.std.proofs.Common.{◌≡◌, ℕ, ◌≤◌, Bool, true, false, List, [], ◌∷◌, Option, Some, None, refl, sym, ap, ◌∙◌}
use Rattle.std.specs.Prelude.{is_some, nat_lt, ◌&&◌, ◌||◌}
use Rattle.std.specs.List.{list_any}
use Rattle.std.proofs.lemmas.Bool.{both_ways, le-ltb, or_parts}
use Rattle.hit_source.specs.Sources.{Asked, Standing}
use Rattle.scatter_gather.specs.Due.{any_may_have_next, is_empty, is_least, least_floor, may_have_next, some_due}
use Rattle.scatter_gather.specs.Gathering.{Gathered, seen, sources_of}
use Rattle.world_parts.specs.Gathers.{HaveNoFloors}

not_some : (floor : Option ℕ) → is_some floor ≡ false → floor ≡ None
not_some None none = refl
not_some (Some far) none = absurd (both_ways true none refl)

pub no_floors : {S : Type 0} (stands : S → Standing) (sources : List S) → list_any (λ source. is_some (stands source).floor) sources ≡ false
    → HaveNoFloors stands sources
no_floors stands [] none = tt
no_floors stands (source ∷ sources) none =
    let both = or_parts (is_some (stands source).floor) (list_any (λ one. is_some (stands one).floor) sources) none in
    (not_some (stands source).floor both.0, no_floors stands sources both.1)

pub floors_left : {S : Type 0} (stands : S → Standing) (sources : List S) → list_any (λ source. is_some (stands source).floor) sources ≡ true
    → HaveNoFloors stands sources → ⊥
floors_left stands [] some none = both_ways false refl some
floors_left stands (source ∷ sources) some none = floors_left stands sources
    (sym (ap (λ (f : Option ℕ). is_some f || list_any (λ one. is_some (stands one).floor) sources) none.0) ∙ some) none.1

no_next : (waits : Bool) → (waits && false) ≡ false
no_next true = refl
no_next false = refl

none_next : {S : Type 0} (asks : S → Asked) (stands : S → Standing) (least : Option ℕ) (sources : List S) → HaveNoFloors stands sources
    → list_any (may_have_next least) (sources_of asks stands sources) ≡ false
none_next asks stands least [] none = refl
none_next asks stands least (source ∷ sources) none =
    ap (λ (f : Option ℕ). (is_empty (stands source).waiting && is_least f least) || list_any (may_have_next least) (sources_of asks stands sources)) none.0
    ∙ ap (λ (b : Bool). b || list_any (may_have_next least) (sources_of asks stands sources)) (no_next (is_empty (stands source).waiting))
    ∙ none_next asks stands least sources none.1

module _ {S : Type 0} (asks : S → Asked) (stands : S → Standing) (g : Gathered S) where
  -- nothing is due where the limit is reached, and where no source has a floor
  pub idle_at_limit : g.limit ≤ g.given → some_due (seen asks stands g) ≡ false
  idle_at_limit past = ap (λ (b : Bool). b && any_may_have_next (sources_of asks stands g.sources)) (le-ltb g.given g.limit past)

  pub idle_without_floors : HaveNoFloors stands g.sources → some_due (seen asks stands g) ≡ false
  idle_without_floors none = ap (λ (b : Bool). nat_lt g.given g.limit && b)
      (none_next asks stands (least_floor (sources_of asks stands g.sources)) g.sources none) ∙ no_next (nat_lt g.given g.limit)
