-- A near query on a version asks what it should, and begins with nothing.
use Rattle.std.proofs.Common.{◌≡◌, ℕ, zero, suc, ◌+◌, ◌-◌, ◌*◌, ◌≤◌, List, [], length, take, get_or, sum, refl, ap, ◌∙◌, subst, arith}
use Rattle.std.proofs.lemmas.Bool.{eq-eqb}
use Rattle.std.specs.Prelude.{IfSome, Option, Some, None}
use Rattle.std.proofs.lemmas.List.{take_all}
use Rattle.hamming_model.specs.Scan.{Near}
use Rattle.threshold_model.specs.Bounds.{IsLeastUpTo, IsBoundOf, IsPlanOf, IsUnitsUpTo, values_of_parts}
use Rattle.shard_version.specs.Tables.{Tabled}
use Rattle.ring_walk.specs.NearPlanned.{NearPlanned, PlansNear, near_rows, near_bits, near_parts, near_query, near_counts}
use Rattle.ring_walk.specs.RingWalks.{RingPlace, StartsRings}
use Rattle.ring_walk.proofs.NearPlanLemmas.{sum_more}
use Rattle.hit_source.specs.Sources.{IsAsked}
use Rattle.hit_source.specs.Windows.{window_of}
use Rattle.knn_task.specs.Near.{last_of}
use Rattle.knn_task.specs.Walked.{IsNearQuery, near_asked, near_standing}
use Rattle.knn_task.specs.Opening.{AsksNear, BeginsNear, near_code}

module _ (p : NearPlanned) (query : IsNearQuery p) where
  -- the least costs at the first radii, added up
  leasts_up_to : (radii : ℕ) → radii ≤ near_bits p + 1
      → IsLeastUpTo (near_counts p) (length (near_parts p)) radii (sum (take radii p.plans.leasts))
  leasts_up_to zero le = refl
  leasts_up_to (suc radius) le =
      let next : suc radius ≡ radius + 1 = omega arith in
      record {
        earlier = sum (take radius p.plans.leasts);
        one = get_or p.plans.leasts radius 0;
        is_earlier = leasts_up_to radius (omega arith);
        is_one = (query.plans.each radius (omega arith)).least;
        all = ap (λ n. sum (take n p.plans.leasts)) next ∙ sum_more p.plans.leasts radius (omega (arith, query.plans.number));
      }

  leasts_through : (radius : ℕ) → radius ≤ near_bits p
      → IsLeastUpTo (near_counts p) (length (near_parts p)) (radius + 1) (sum (take (radius + 1) p.plans.leasts))
  leasts_through radius le =
      let next : suc radius ≡ radius + 1 = omega arith in
      subst (λ n. IsLeastUpTo (near_counts p) (length (near_parts p)) n (sum (take n p.plans.leasts))) next
      (leasts_up_to (suc radius) (omega arith))

  plan_is : (room number : ℕ) (given : Option ℕ) → IfSome given (λ radius. radius ≤ near_bits p)
      → IsPlanOf (Near number (near_query p)) (near_rows p) (near_parts p) given
      ((near_asked p room).plan given).0 ((near_asked p room).plan given).1
  plan_is room number None within = query.plans.each 0 (omega arith)
  plan_is room number (Some radius) within = query.plans.each radius within

  bound_is : (room number : ℕ) (given : Option ℕ) → IfSome given (λ radius. radius ≤ near_bits p)
      → IsBoundOf (Near number (near_query p)) (near_rows p) (near_parts p) given ((near_asked p room).bound given)
  bound_is room number None within = refl
  bound_is room number (Some radius) within = leasts_through radius within

  asks : (room : ℕ) → IsAsked (near_asked p room) → AsksNear p.version.contents (near_query p) room (near_asked p room)
  asks room asked = record {
    asked = asked;
    hits = refl;
    rows = refl;
    near = refl;
    room_is = refl;
    farthest = refl;
    plan = plan_is room;
    bound = bound_is room;
  }

  -- a near query asks what it should of its version
  pub asks_near : (version : Tabled) (stored : List ℕ) (room : ℕ) → PlansNear version stored p → IsAsked (near_asked p room)
      → AsksNear version.contents (near_code version.contents stored) room (near_asked p room)
  asks_near version stored room plans asked =
      subst (λ words. AsksNear version.contents (near_code version.contents words) room (near_asked p room)) plans.stored_is
      (subst (λ (v : Tabled). AsksNear v.contents (near_code v.contents p.stored) room (near_asked p room)) plans.version_is
      (asks room asked))

  module _ (units_are : (counts : ℕ → ℕ → ℕ) (layout : List (List ℕ)) (radii sum : ℕ) → IsLeastUpTo counts (length layout) radii sum
      → IsUnitsUpTo counts layout radii (radii * (values_of_parts layout + 1) + 2 * sum)) (place : RingPlace) (starts : StartsRings p place)
      (rows room : ℕ) where
    all_units : IsUnitsUpTo (near_counts p) (near_parts p) (near_bits p + 1)
        ((near_standing p place (window_of [] rows room) (record { ready = 0; settled = 0 }) 0).units)
    all_units =
        let bits = near_bits p in
        let whole : take (bits + 1) p.plans.leasts ≡ p.plans.leasts = take_all (bits + 1) p.plans.leasts (omega (arith, query.plans.number)) in
        let left : bits + 1 - place.begun ≡ bits + 1 = omega (arith, starts.begun) in
        let none = ap length starts.no_values in
        let radii = ap (λ n. n * (values_of_parts (near_parts p) + 1)) left in
        let costs = ap sum whole in
        subst (IsUnitsUpTo (near_counts p) (near_parts p) (bits + 1)) (omega arith)
        (units_are (near_counts p) (near_parts p) (bits + 1) (sum (take (bits + 1) p.plans.leasts)) (leasts_through bits (omega arith)))

    begins : BeginsNear p.version.contents (near_query p)
        (near_standing p place (window_of [] rows room) (record { ready = 0; settled = 0 }) 0)
    begins = record {
      fresh = record { given = refl; waiting = refl; reads = refl; begun = ap last_of starts.begun };
      units = λ number. all_units;
      ended = λ none. eq-eqb 0 (length (near_rows p)) (omega (arith, ap length none));
    }

    -- and where it begins
    pub begins_near : (version : Tabled) (stored : List ℕ) → PlansNear version stored p
        → BeginsNear version.contents (near_code version.contents stored)
        (near_standing p place (window_of [] rows room) (record { ready = 0; settled = 0 }) 0)
    begins_near version stored plans =
        subst (λ words. BeginsNear version.contents (near_code version.contents words)
        (near_standing p place (window_of [] rows room) (record { ready = 0; settled = 0 }) 0)) plans.stored_is
        (subst (λ (v : Tabled). BeginsNear v.contents (near_code v.contents p.stored)
        (near_standing p place (window_of [] rows room) (record { ready = 0; settled = 0 }) 0)) plans.version_is begins)
