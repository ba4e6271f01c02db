-- Lemmas on a desk: what of it stays, where its shards come on too, and the layouts of one that is alone.
use Rattle.std.proofs.Common.{◌≡◌, ◌<◌, ℕ, true, List, [], ◌∷◌, length, map, sym, ap, ◌∙◌, subst, append-nil}
use Rattle.std.specs.List.{AllByRecursion}
use Rattle.std.specs.declared.option.Option.{Option}
use Rattle.part_layout.specs.declared.config.Config.{Config}
use Rattle.session_desk.specs.Desks.{DeskState, IsDesk, Pin, ShardPlace, no_place, pin_position, pinned_at}
use Rattle.session_desk.specs.Calls.{Learns, OnlyLearns, TellsLayout}
use Rattle.open_session.specs.KeptBuild.{KeepsBuilds}
use Rattle.shard_rebuild.specs.ShardBuilds.{SeesMore}
use Rattle.shard_rebuild.proofs.BuildLemmas.{build_lasts, learns_more}
use Rattle.std.proofs.Common.{zero, suc, ◌≤◌, slice_index_or, slice_set, None, refl, arith}
use Rattle.std.proofs.lemmas.List.{get_or-set_same, length-map, length-set, set-get_or}
use Rattle.session_model.specs.Ledger.{layout_at}
use Rattle.session_model.specs.Upkeep.{entries_beyond}
use Rattle.query_opening.specs.Pinning.{ComesOn}
use Rattle.open_session.specs.KeptDesk.{KeepsDesk, layouts_of}
use Rattle.hamming_model.specs.Layouts.{IsLayout}
use Rattle.session_model.specs.Step.{AreLayouts}

-- ---- what the desk is

-- a desk was made with the config
abbrev pub IsHere : Config → DeskState → Type 0
IsHere config desk = desk.config ≡ config

pub here_same : (config : Config) (old new : DeskState) → new.config ≡ old.config → old.config ≡ config
    → IsHere config new
here_same config old new same is_config = same ∙ is_config

pub here_learns : (config : Config) (old new : DeskState) → OnlyLearns old new → old.config ≡ config
    → IsHere config new
here_learns config old new only = here_same config old new (ap (λ (d : DeskState). d.config) only.after)

pub here_tells : (config : Config) (old new : DeskState) (shard : ℕ) (told : List ℕ)
    → TellsLayout old new shard told → old.config ≡ config → IsHere config new
here_tells config old new shard told tells = here_same config old new (ap (λ (d : DeskState). d.config) tells.after)

-- a desk that is as it was learns nothing
pub only_still : (old new : DeskState) → new ≡ old → OnlyLearns old new
only_still old new same = subst (OnlyLearns old) (sym same) (record {
  learns = record { more = []; longer = sym (append-nil old.seen); others = tt; all = λ alone. refl };
  after = refl;
})

-- ---- the builds of the desk

pub builds_learned : (old new : DeskState) → Learns old new.seen → new.config ≡ old.config → KeepsBuilds old new
builds_learned old new learns config = build_lasts old new (learns_more old new learns config)

pub builds_learn : (old new : DeskState) → OnlyLearns old new → KeepsBuilds old new
builds_learn old new only = builds_learned old new only.learns (ap (λ (d : DeskState). d.config) only.after)

pub builds_told : (old new : DeskState) (shard : ℕ) (told : List ℕ) → TellsLayout old new shard told
    → KeepsBuilds old new
builds_told old new shard told tells =
    builds_learned old new tells.learns (ap (λ (d : DeskState). d.config) tells.after)

-- where no more is seen
pub builds_seen : (old new : DeskState) → new.seen ≡ old.seen → new.config ≡ old.config → KeepsBuilds old new
builds_seen old new seen config =
    let more : SeesMore old new = record { more = []; longer = seen ∙ sym (append-nil old.seen); config = config } in
    build_lasts old new more

-- ---- lists by place

-- two lists with the same at each place are the same
pub same_list : {S B : Type 0} (f : S → B) (xs ys : List S) (d : S) → length xs ≡ length ys
    → ((i : ℕ) → i < length ys → f (slice_index_or xs i d) ≡ f (slice_index_or ys i d)) → map f xs ≡ map f ys
same_list f [] [] d same each = refl
same_list f [] (y ∷ ys) d same each = absurd (omega (arith, same))
same_list f (x ∷ xs) [] d same each = absurd (omega (arith, same))
same_list f (x ∷ xs) (y ∷ ys) d same each =
    ap (λ h. h ∷ map f xs) (each zero (omega arith))
    ∙ ap (λ l. f y ∷ l) (same_list f xs ys d (omega (arith, same)) (λ i lt. each (suc i) (omega (arith, lt))))

-- ---- shards that come on

-- pins that are further leave fewer entries
pub beyond_less : (old new : List (Option Pin)) (most : ℕ) → length new ≡ length old
    → ((i : ℕ) → i < length old
    → pin_position (slice_index_or old i None) ≤ pin_position (slice_index_or new i None))
    → entries_beyond (map pin_position new) most ≤ entries_beyond (map pin_position old) most
beyond_less [] [] most same each = omega arith
beyond_less [] (y ∷ new) most same each = absurd (omega (arith, same))
beyond_less (x ∷ old) [] most same each = absurd (omega (arith, same))
beyond_less (x ∷ old) (y ∷ new) most same each =
    omega (
      arith,
      each zero (omega arith),
      beyond_less old new most (omega (arith, same)) (λ i lt. each (suc i) (omega (arith, lt))),
    )

module _ (words : ℕ) (old new : DeskState) (is_old : IsDesk words old) (is_new : IsDesk words new)
    (comes : ComesOn old new) where
  pub shards_same : new.config.shards ≡ old.config.shards
  shards_same = ap (λ (c : Config). c.shards) comes.config

  pub keeps : KeepsDesk old new
  keeps = record {
    board = comes.board;
    who = comes.who;
    config = comes.config;
    fronts = comes.fronts;
    done = comes.done;
    late = comes.late;
    alone = comes.alone;
    layouts = λ alone. same_list (λ (place : ShardPlace). place.1.parts) new.places old.places no_place
        (is_new.places (comes.alone ∙ alone) ∙ shards_same ∙ sym (is_old.places alone))
        (λ i lt. ap (λ l. l.parts) (comes.layouts alone i));
  }

  pub pin_within : (i : ℕ) → i < length old.pins → pinned_at old i ≤ length old.seen
  pin_within i lt = is_old.pinned_within i (omega (arith, lt, is_old.pins))

  -- pins that are further leave fewer entries
  pub fewer_beyond : (most : ℕ) → entries_beyond (map pin_position new.pins) most ≤ entries_beyond (map pin_position old.pins) most
  fewer_beyond most =
      beyond_less old.pins new.pins most comes.number (λ i lt. comes.rises i (pin_within i lt))

-- ---- the layout of one shard, in the place of another

all_set : (P : List (List ℕ) → Type 0) (layouts : List (List (List ℕ))) (shard : ℕ) (layout : List (List ℕ))
    → AllByRecursion P layouts → P layout → AllByRecursion P (slice_set layouts shard layout)
all_set P [] shard layout all this = tt
all_set P (first ∷ layouts) zero layout all this = (this, all.1)
all_set P (first ∷ layouts) (suc shard) layout all this = (all.0, all_set P layouts shard layout all.1 this)

module _ (layouts : List (List (List ℕ))) (shard : ℕ) (layout : List (List ℕ)) where
  pub with_layout : (config : Config) → AreLayouts config layouts → IsLayout config.bits layout
      → AreLayouts config (slice_set layouts shard layout)
  with_layout config are this = record {
    number = length-set layouts shard layout ∙ are.number;
    each = all_set (IsLayout config.bits) layouts shard layout are.each this;
  }

  pub layout_there : shard < length layouts → layout_at (slice_set layouts shard layout) shard ≡ layout
  layout_there lt = get_or-set_same layouts shard layout [] lt

  pub same_layouts : layout ≡ layout_at layouts shard → slice_set layouts shard layout ≡ layouts
  same_layouts is = ap (slice_set layouts shard) is ∙ set-get_or layouts shard []

-- ---- the layouts of a desk

layouts_by : (bits : ℕ) (places : List ShardPlace) → ((i : ℕ) → i < length places
    → IsLayout bits (slice_index_or places i no_place).1.parts)
    → AllByRecursion (IsLayout bits) (map (λ (place : ShardPlace). place.1.parts) places)
layouts_by bits [] each = tt
layouts_by bits (place ∷ places) each =
    (each zero (omega arith), layouts_by bits places (λ i lt. each (suc i) (omega (arith, lt))))

-- the layouts of a desk that is alone
pub are_layouts : (words : ℕ) (config : Config) (desk : DeskState) → IsDesk words desk → desk.alone ≡ true
    → desk.config ≡ config → AreLayouts config (layouts_of desk)
are_layouts words config desk is alone same =
    let number : length desk.places ≡ desk.config.shards = is.places alone in
    subst (λ c. AreLayouts c (layouts_of desk)) same (record {
      number = length-map desk.places (λ (place : ShardPlace). place.1.parts) ∙ number;
      each = layouts_by desk.config.bits desk.places (λ i lt.
          let place = is.each alone i (omega (arith, lt, number)) in
          subst (λ bits. IsLayout bits (slice_index_or desk.places i no_place).1.parts) place.bits place.laid.layout);
    })
