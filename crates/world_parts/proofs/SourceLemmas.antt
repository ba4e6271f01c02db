-- The sources of a query on the versions that it pinned.
use Rattle.std.proofs.Common.{◌≡◌, ◌≢◌, ℕ, zero, suc, ◌+◌, ◌<◌, List, [], ◌∷◌, ◌++◌, cond, length}
use Rattle.std.proofs.Common.{map, take, Option, Some, None, refl, sym, ap, subst, ◌∙◌, arith, inl, inr}
use Rattle.std.specs.Prelude.{is_none, slice_get}
use Rattle.std.specs.Arc.{arc_value}
use Rattle.std.specs.List.{AllByRecursion, sum_by}
use Rattle.std.specs.declared.alloc.Global.{Global}
use Rattle.std.specs.declared.sync.Arc.{Arc}
use Rattle.std.proofs.lemmas.List.{length-append, length-set}
use Rattle.std.proofs.lemmas.List.Sums.{sum_by-set}
use Rattle.std.proofs.lemmas.Option.{get_or_from_slice_get, none-some, same_Some, slice_get_within}
use Rattle.shard_version.specs.Contents.{Contents}
use Rattle.shard_version.specs.Tables.{Tabled}
use Rattle.hit_source.specs.Sources.{IsFresh}
use Rattle.shard_query.specs.Opening.{AsksRange, BeginsRange, opened_code}
use Rattle.knn_task.specs.Opening.{AsksNear, BeginsNear, near_code}
use Rattle.versioned_shard.specs.Shards.{contents_at}
use Rattle.scatter_gather.specs.Kept.{AreOneLength}
use Rattle.world_model.proofs.Lookups.{get_other, get_same, get_snoc}
use Rattle.world_bridge.proofs.SourceLemmas.{near_asks, range_asks, range_fresh, range_units}
use Rattle.world_parts.specs.Pinned.{AreOpened, IsOpened, IsPinThere, MayOpen, MayOpenEach, VersionPins, missing, pinned_with, rows_pinned}
use Rattle.world_parts.specs.Sources.{QuerySource, question_asked, standing_told}
use Rattle.world_parts.specs.declared.ask.Ask.{Ask}
use Rattle.world_parts.specs.declared.ask.Ask.TheVariants.{Near, Range}
use Rattle.world_parts.proofs.ListLemmas.{at_within}

-- ---- pins

-- where none is missing each shard has a version
pub pin_there : (pins : VersionPins) (shard : ℕ) → missing pins ≡ 0 → shard < length pins → (version : Arc Tabled Global) × (slice_get pins shard ≡ Some
    (Some version))
pin_there [] shard all low = absurd (omega (arith, low))
pin_there (None ∷ pins) shard all low = absurd (omega (arith, all))
pin_there (Some version ∷ pins) zero all low = (version, refl)
pin_there (Some version ∷ pins) (suc shard) all low = pin_there pins shard all (omega (arith, low))

-- one pin more in the place of none
pub one_less : (pins : VersionPins) (shard : ℕ) (version : Arc Tabled Global) → slice_get pins shard ≡ Some None
    → missing (pinned_with pins shard version) + 1 ≡ missing pins
one_less [] shard version none = absurd (none-some None none)
one_less (None ∷ pins) zero version none = omega arith
one_less (Some other ∷ pins) zero version none = absurd (none-some other (sym (same_Some (Some other) None none)))
one_less (None ∷ pins) (suc shard) version none = omega (arith, one_less pins shard version none)
one_less (Some other ∷ pins) (suc shard) version none = one_less pins shard version none

-- so many as were counted without it
pub left_after : (pins own : VersionPins) (shard : ℕ) (version : Arc Tabled Global) (counted : ℕ) → counted ≡ missing own → own ≡ pins
    → slice_get pins shard ≡ Some None → missing (pinned_with pins shard version) + 1 ≡ counted
left_after pins own shard version counted count same none = omega (arith, count, ap missing same, one_less pins shard version none)

-- and its rows
pub rows_more : (pins : VersionPins) (shard : ℕ) (version : Arc Tabled Global) → slice_get pins shard ≡ Some None
    → sum_by rows_pinned (pinned_with pins shard version) ≡ sum_by rows_pinned pins + length (contents_at version).rows
rows_more pins shard version none = omega (
  arith,
  sum_by-set rows_pinned pins shard (Some version) None (slice_get_within pins shard None none),
  ap rows_pinned (get_or_from_slice_get pins shard None None none),
)

one_missing : (pin : Option (Arc Tabled Global)) → missing (pin ∷ []) ≡ cond (is_none pin) 1 0
one_missing None = refl
one_missing (Some version) = refl

-- how many are missing of one more
pub missing_more : (pins : VersionPins) (i : ℕ) (pin : Option (Arc Tabled Global)) → slice_get pins i ≡ Some pin
    → missing (take (suc i) pins) ≡ missing (take i pins) + cond (is_none pin) 1 0
missing_more [] i pin there = absurd (none-some pin there)
missing_more (first ∷ pins) zero pin there =
    omega (arith, one_missing first, ap {B = ℕ} (λ (one : Option (Arc Tabled Global)). cond (is_none one) 1 0) (same_Some first pin there))
missing_more (None ∷ pins) (suc i) pin there = omega (arith, missing_more pins i pin there)
missing_more (Some version ∷ pins) (suc i) pin there = missing_more pins i pin there

pub missing_next : (pins : VersionPins) (i : ℕ) (pin : Option (Arc Tabled Global)) → slice_get pins i ≡ Some pin
    → missing (take (i + 1) pins) ≡ missing (take i pins) + cond (is_none pin) 1 0
missing_next pins i pin there = (let e : i + 1 ≡ suc i = omega arith in ap (λ (n : ℕ). missing (take n pins)) e ∙ missing_more pins i pin there)

module _ (pins : VersionPins) (place : ℕ) (version : Arc Tabled Global) where
  -- the version that is one more stands at its place
  pub own_here : (shard : ℕ) (own : Arc Tabled Global) → shard ≡ place → shard < length pins → arc_value own ≡ arc_value version
      → IsPinThere (pinned_with pins place version) shard own
  own_here shard own at low same = record {
    pin = version;
    is_there = subst (λ (n : ℕ). slice_get (pinned_with pins place version) n ≡ Some (Some version)) (sym at)
        (let first = at_within pins place (omega (arith, at, low)) in get_same pins place first.0 (Some version) first.1);
    same = ap (λ (tabled : Tabled). tabled.contents) same;
  }

  -- the others stand at theirs
  pub own_other : (shard : ℕ) (pin own : Arc Tabled Global) → shard ≢ place → slice_get pins shard ≡ Some (Some pin) → arc_value own ≡ arc_value pin
      → IsPinThere (pinned_with pins place version) shard own
  own_other shard pin own apart there same = record {
    pin = pin;
    is_there = get_other pins place shard (Some version) apart ∙ there;
    same = ap (λ (tabled : Tabled). tabled.contents) same;
  }

  pub none_other : (shard : ℕ) → missing (pinned_with pins place version) ≡ 0 → shard < length pins → shard ≢ place
      → slice_get pins shard ≡ Some None → ⊥
  none_other shard all low apart none =
      let pin = pin_there (pinned_with pins place version) shard all (omega (arith, low, length-set pins place (Some version))) in
      none-some pin.0 (same_Some None (Some pin.0) (sym none ∙ sym (get_other pins place shard (Some version) apart) ∙ pin.1))

-- ---- opened sources

-- a source of either kind
pub opened_range : {W : ℕ} (room tau : ℕ) (code : List ℕ) (version : Contents) (source : QuerySource W)
    → AsksRange version (opened_code version code) tau room (question_asked source)
    → BeginsRange version (question_asked source) (standing_told source) → IsOpened room (Range tau code) version source
opened_range room tau code version source asks begins =
    let units = range_units version.layout.bits version (opened_code version code) tau room (question_asked source) (standing_told source) asks begins in
    record {
      asks = range_asks version (opened_code version code) tau room (question_asked source) asks;
      fresh = range_fresh version (question_asked source) (standing_told source) begins;
      most = units.0;
      units_of = units.1;
      units = units.2;
    }

pub opened_near : {W : ℕ} (room count : ℕ) (code : List ℕ) (version : Contents) (source : QuerySource W)
    → AsksNear version (near_code version code) room (question_asked source)
    → BeginsNear version (near_code version code) (standing_told source) → IsOpened room (Near count code) version source
opened_near room count code version source asks begins = record {
  asks = near_asks version (near_code version code) count room (question_asked source) asks;
  fresh = begins.fresh;
  most = (standing_told source).units;
  units_of = begins.units count;
  units = omega arith;
}

module _ {W : ℕ} (room : ℕ) (ask : Ask W) (pins : VersionPins) where
  pub none_opened : AreOpened room ask pins [] 0
  none_opened = record { number_is = refl; each = λ shard source version there pinned. absurd (none-some source there) }

  -- one source more
  pub opened_more : (sources : List (QuerySource W)) (number : ℕ) (own : Arc Tabled Global) (source : QuerySource W)
      → AreOpened room ask pins sources number → IsPinThere pins number own → IsOpened room ask (contents_at own) source
      → AreOpened room ask pins (sources ++ source ∷ []) (number + 1)
  opened_more sources number own source first pin is = record {
    number_is = length-append sources (source ∷ []) ∙ omega (arith, first.number_is);
    each = λ shard other version there pinned. elim (get_snoc sources shard source other there) [
      | inr before ↦ first.each shard other version before pinned
      | inl both ↦ subst (λ (one : QuerySource W). IsOpened room ask (contents_at version) one) (sym both.1)
          (subst (λ (contents : Contents). IsOpened room ask contents source)
          (pin.same ∙ ap contents_at (same_Some pin.pin version (same_Some (Some pin.pin) (Some version)
          (sym pin.is_there ∙ ap (slice_get pins) (sym (both.0 ∙ first.number_is)) ∙ pinned)))) is)
    ];
  }

-- ---- what may be gathered

-- a pinned version may be asked
pub own_may : {W : ℕ} (ask : Ask W) (pins : VersionPins) (shard : ℕ) (own : Arc Tabled Global) → MayOpenEach ask pins → IsPinThere pins shard own
    → MayOpen ask (contents_at own)
own_may ask pins shard own may is = subst (MayOpen ask) (sym is.same) (may.each shard is.pin is.is_there)

-- a source was opened on each shard
pub opened_whole : {W : ℕ} (room : ℕ) (ask : Ask W) (pins : VersionPins) (place : ℕ) (version : Arc Tabled Global) (sources : List (QuerySource W))
    → AreOpened room ask (pinned_with pins place version) sources (length pins)
    → AreOpened room ask (pinned_with pins place version) sources (length (pinned_with pins place version))
opened_whole room ask pins place version sources are =
    subst (AreOpened room ask (pinned_with pins place version) sources) (sym (length-set pins place (Some version))) are

module _ {W : ℕ} (room : ℕ) (ask : Ask W) (pins : VersionPins) (may : MayOpenEach ask pins) (sources : List (QuerySource W))
    (are : AreOpened room ask pins sources (length pins)) where
  opened_at : (shard : ℕ) (source : QuerySource W) → slice_get sources shard ≡ Some source
      → (version : Arc Tabled Global) × (slice_get pins shard ≡ Some (Some version)) × IsOpened room ask (contents_at version) source
  opened_at shard source there =
      let pin = pin_there pins shard may.all (omega (arith, slice_get_within sources shard source there, are.number_is)) in
      (pin.0, pin.1, are.each shard source pin.0 there pin.1)

  each_all : (P : QuerySource W → Type 0) (list : List (QuerySource W))
      → ((shard : ℕ) (source : QuerySource W) → slice_get list shard ≡ Some source → P source) → AllByRecursion P list
  each_all P [] each = tt
  each_all P (source ∷ list) each = (each 0 source refl, each_all P list (λ shard other there. each (suc shard) other there))

  pub all_fresh : AllByRecursion (λ source. IsFresh (standing_told source)) sources
  all_fresh = each_all (λ source. IsFresh (standing_told source)) sources (λ shard source there. (opened_at shard source there).2.fresh)

  all_far : (far : ℕ) (list : List (QuerySource W)) → AllByRecursion (λ source. (question_asked source).farthest ≡ may.bits) list → far ≡ may.bits
      → AllByRecursion (λ a. a.farthest ≡ far) (map question_asked list)
  all_far far [] all same = tt
  all_far far (source ∷ list) all same = (all.0 ∙ sym same, all_far far list all.1 same)

  one_far : (list : List (QuerySource W)) → AllByRecursion (λ source. (question_asked source).farthest ≡ may.bits) list
      → AreOneLength (map question_asked list)
  one_far [] all = tt
  one_far (source ∷ list) all = all_far (question_asked source).farthest (source ∷ list) all all.0

  pub all_one_length : AreOneLength (map question_asked sources)
  all_one_length = one_far sources (each_all (λ source. (question_asked source).farthest ≡ may.bits) sources (λ shard source there.
      (let at = opened_at shard source there in at.2.asks.farthest ∙ may.bits_are shard at.0 at.1)))
