-- The beginning, and the pins of queries that go on.
use Rattle.std.proofs.Common.{◌≡◌, ℕ, zero, suc, ◌+◌, ◌<◌, List, [], ◌∷◌, length, refl, sym, ap, ◌∙◌, subst, arith, false}
use Rattle.std.specs.Prelude.{is_none, Some, None, slice_get}
use Rattle.std.proofs.lemmas.Bool.{lt-leb}
use Rattle.std.proofs.lemmas.Option.{none-some, same_Some}
use Rattle.hamming_model.proofs.LegalLemmas.{legal_empty}
use Rattle.part_layout.specs.Laid.{Laid}
use Rattle.shard_version.specs.Contents.{Contents, empty_of}
use Rattle.versioned_shard.specs.Shards.{HasVersion, IsOneOf, advanced, shard_with}
use Rattle.world_model.specs.declared.refused.Refused.TheVariants.{NoShard, NoQuery, Closed}
use Rattle.world_model.specs.Events.{Setting, Pin, IsLayoutFor}
use Rattle.world_model.specs.Refusals.{cause, cause_of, first_cause, refusal}
use Rattle.world_model.specs.ShardSteps.{HasFront}
use Rattle.world_model.specs.Sound.{KeepsShard, IsSound}
use Rattle.world_model.specs.WorldState.{WorldState, ShardWithBuild, WorldQuery, empty_places, front_on, new_world, pinned_version}
use Rattle.world_model.proofs.LiveLemmas.{live_of}
use Rattle.world_model.proofs.PlaceLemmas.{empty_is_place, one_is_pinned, version_there}

-- ---- the beginning
abbrev empty_place : Setting → Laid → ℕ → ShardWithBuild
empty_place z layout shard = record { shard = shard_with (empty_of shard z.shards layout) []; build = None }

place_there : (z : Setting) (layout : Laid) (first n k : ℕ) (place : ShardWithBuild) → slice_get (empty_places z layout first n) k ≡ Some place
    → place ≡ empty_place z layout (first + k)
place_there z layout first zero k place h = absurd (none-some place h)
place_there z layout first (suc n) zero place h =
    sym (same_Some (empty_place z layout first) place h) ∙ ap (empty_place z layout) (let e : first ≡ first + 0 = omega arith in e)
place_there z layout first (suc n) (suc k) place h =
    place_there z layout (first + 1) n k place h ∙ ap (empty_place z layout) (let e : (first + 1) + k ≡ first + suc k = omega arith in e)

places_number : (z : Setting) (layout : Laid) (first n : ℕ) → length (empty_places z layout first n) ≡ n
places_number z layout first zero = refl
places_number z layout first (suc n) = omega (arith, places_number z layout (first + 1) n)

-- a world to which nothing happened keeps the rules
pub new_sound : (z : Setting) (layout : Laid) → IsLayoutFor z.bits layout → IsSound z (new_world z layout)
new_sound z layout laid = record {
  legal = legal_empty;
  few = omega arith;
  codes = tt;
  number = places_number z layout 0 z.shards;
  places = λ shard place there. subst (KeepsShard z [] [] shard)
      (sym (place_there z layout 0 z.shards shard place there ∙ ap (empty_place z layout) (let e : 0 + shard ≡ shard = omega arith in e)))
      (empty_is_place z layout shard laid);
  fronts = λ number query older there is_open. absurd (none-some query there);
  queries = λ number query there. absurd (none-some query there);
}

-- ---- pins

-- a pin of a query that goes on, on a shard that there is, has no cause to be refused
pub pin_not_refused : (z : Setting) (s : WorldState) (number shard : ℕ) (query : WorldQuery) → shard < z.shards
    → slice_get s.queries number ≡ Some query
    → query.cancelled ≡ false → refusal z s (Pin number shard) ≡ None
pin_not_refused z s number shard query below there goes_on =
    ap (λ b. first_cause (cause b NoShard ∷ cause (is_none (slice_get s.queries number)) NoQuery
    ∷ cause_of (slice_get s.queries number) (λ q. cause q.cancelled Closed)
    ∷ None ∷ None ∷ None ∷ None ∷ None ∷ None ∷ None ∷ [])) (lt-leb z.shards shard below)
    ∙ ap (λ o. first_cause (cause (is_none o) NoQuery ∷ cause_of o
    (λ q. cause q.cancelled Closed) ∷ None ∷ None ∷ None ∷ None ∷ None ∷ None ∷ None ∷ [])) there
    ∙ ap (λ b. first_cause (cause b Closed ∷ None ∷ None ∷ None ∷ None ∷ None ∷ None ∷ None ∷ [])) goes_on

-- the version at an open front is there, once the shard was brought to it
pub front_has_version : (z : Setting) (s : WorldState) (number shard : ℕ) (query : WorldQuery) (older : List ℕ) (place : ShardWithBuild) → IsSound z s
    → HasFront s number query older
    → slice_get s.places shard ≡ Some place → HasVersion (advanced (front_on s.history query older) place.shard) query.position
front_has_version z s number shard query older place is fronted there =
    version_there z s.history s.queries shard place (is.places shard place there) query older
    (is.fronts number query older fronted.is_query fronted.is_open)
    (is.queries number query fronted.is_query).within (live_of s.queries number query older fronted.is_query fronted.is_open)

-- and has the rows of the query's own prefix
pub version_has_rows : (z : Setting) (s : WorldState) (number shard : ℕ) (query : WorldQuery) (place : ShardWithBuild) (version : Contents)
    → IsSound z s
    → slice_get s.queries number ≡ Some query → slice_get s.places shard ≡ Some place → IsOneOf place.shard query.position version
    → version ≡ pinned_version z s.history query shard version.layout
version_has_rows z s number shard query place version is has there one =
    one_is_pinned z s.history s.queries shard place (is.places shard place there) query version is.codes one
