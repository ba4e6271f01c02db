-- A desk that is alone after its calls.
use Rattle.std.proofs.Common.{◌≡◌, ◌≢◌, ◌⊎◌, inl, inr, ℕ, ◌<◌, ◌≤◌, max, List, [], length, map, take, get_or, set, Option, Some, None}
use Rattle.std.proofs.Common.{refl, sym, ap, subst, ◌∙◌, arith}
use Rattle.std.proofs.Math.ListN.{get_or-map}
use Rattle.std.proofs.lemmas.Bool.{cases_eq}
use Rattle.std.proofs.lemmas.List.{append-nil, get_or_default, get_or-set_other, get_or-set_same, length-map, length-set, map-set, set-get_or}
use Rattle.hamming_model.specs.History.{rows_of, shard_rows}
use Rattle.hamming_model.specs.Recoded.{AreStoredEntries, cut_history}
use Rattle.part_layout.specs.Laid.{Laid, IsLaid}
use Rattle.part_layout.specs.Text.{layout_text}
use Rattle.shard_version.specs.Contents.{Contents}
use Rattle.commit_journal.specs.Fronts.{FrontState, position_of}
use Rattle.commit_journal.specs.Journals.{IsJournal, JournalState, without_front}
use Rattle.versioned_shard.specs.Rule.{KeepsJournalRule}
use Rattle.versioned_shard.specs.Shards.{ShardState}
use Rattle.session_desk.specs.Calls.{Comes, Learns, PinsVersion, TellsLayout}
use Rattle.session_desk.specs.Desks.{DeskState, IsDesk, IsShardPlace, IsVersionOf, Pin, ShardPlace, left_at, pin_position, place_at}
use Rattle.session_desk.specs.Solos.{ComesTo, GivesVersion, IsShardOf, IsSoloDesk, SoloState, desk_of, no_shard, place_of, solo_of}

-- the shard of a number
abbrev pub shard_of : SoloState → ℕ → ShardState
shard_of s number = get_or s.shards number no_shard

-- where the desk left a shard is where that stands
pub left_there : (s : SoloState) (number : ℕ) → left_at (desk_of s) number ≡ (shard_of s number).current.at
left_there s number = get_or-map (λ (shard : ShardState). shard.current.at) s.shards number no_shard

pub placed_there : (s : SoloState) (number : ℕ) → place_at (desk_of s) number ≡ place_of (shard_of s number)
placed_there s number = get_or-map place_of s.shards number no_shard

-- a solo desk is a desk
pub solo_is_desk : (words : ℕ) (s : SoloState) → IsSoloDesk words s → IsJournal s.journal → IsDesk words (desk_of s)
solo_is_desk words s solo journal = record {
  config = solo.config;
  few_words = solo.few_words;
  room = solo.room;
  legal = journal.legal;
  few = omega (arith, journal.few, solo.limit);
  codes = solo.codes;
  pins = solo.pins;
  left = length-map s.shards (λ (shard : ShardState). shard.current.at) ∙ solo.shards;
  pinned = λ number low. omega (arith, left_there s number, (solo.each number low).pinned);
  pinned_within = λ number low. omega (arith, (solo.each number low).pinned, (solo.each number low).rule.within);
  places = λ alone. length-map s.shards place_of ∙ solo.shards;
  each = λ alone number low. placed number low;
}
  where
    placed : (number : ℕ) → number < s.config.shards → IsShardPlace (desk_of s) number
    placed number low =
        let each = solo.each number low in
        let there = placed_there s number in
        let layout = ap (λ (place : ShardPlace). place.1) there in
        record {
          within = omega (arith, each.rule.within, ap (λ (place : ShardPlace). place.0) there);
          left = left_there s number ∙ sym (ap (λ (place : ShardPlace). place.0) there);
          laid = subst IsLaid (sym layout) each.rule.laid;
          bits = ap (λ (laid : Laid). laid.bits) layout ∙ each.bits_are;
        }

-- nothing new is learned
pub learns_nothing : (old : DeskState) → Learns old old.seen
learns_nothing old = record { more = []; longer = sym (append-nil old.seen); others = tt; all = λ _. refl }

module _ (words : ℕ) (s : SoloState) (solo : IsSoloDesk words s) where
  -- the journal went on, and each shard keeps the rule along it
  pub solo_goes_on : (journal : JournalState) → ((shard : ShardState) → KeepsJournalRule s.journal shard → KeepsJournalRule journal shard)
      → journal.limit ≡ s.journal.limit → journal.history ≡ s.journal.history
      → IsSoloDesk words (solo_of s.config journal s.last s.shards s.pins s.done s.late)
  solo_goes_on journal law limit same = record {
    config = solo.config;
    few_words = solo.few_words;
    room = solo.room;
    limit = limit ∙ solo.limit;
    codes = subst (AreStoredEntries words s.config.bits) (sym same) solo.codes;
    shards = solo.shards;
    pins = solo.pins;
    each = λ number low. (let each = solo.each number low in record {
      rule = law (shard_of s number) each.rule;
      shard_is = each.shard_is;
      shards_are = each.shards_are;
      bits_are = each.bits_are;
      pinned = each.pinned;
    });
  }

  -- a front was closed
  pub solo_closed : (journal : JournalState) (id : ℕ) → journal ≡ without_front s.journal id
      → ((shard : ShardState) → KeepsJournalRule s.journal shard → KeepsJournalRule (without_front s.journal id) shard)
      → IsSoloDesk words (solo_of s.config journal s.last s.shards s.pins s.done s.late)
  solo_closed journal id is law = solo_goes_on journal (λ shard rule. subst (λ (each : JournalState). KeepsJournalRule each shard) (sym is) (law shard rule))
      (ap (λ (each : JournalState). each.limit) is) (ap (λ (each : JournalState). each.history) is)

  -- ---- one shard changed
  module _ (number : ℕ) (low : number < s.config.shards) (new : ShardState) where
    own : IsShardOf s.config s.journal number (shard_of s number) (get_or s.pins number None)
    own = solo.each number low

    low_shards : number < length s.shards
    low_shards = omega (arith, low, solo.shards)

    low_pins : number < length s.pins
    low_pins = omega (arith, low, solo.pins)

    -- the desk with that shard, whose pin may be new
    pub solo_with : (pins : List (Option Pin)) (last done late : ℕ) → length pins ≡ length s.pins
        → ((other : ℕ) → other ≢ number → get_or pins other None ≡ get_or s.pins other None)
        → IsShardOf s.config s.journal number new (get_or pins number None)
        → IsSoloDesk words (solo_of s.config s.journal last (set s.shards number new) pins done late)
    solo_with pins last done late long others here = record {
      config = solo.config;
      few_words = solo.few_words;
      room = solo.room;
      limit = solo.limit;
      codes = solo.codes;
      shards = length-set s.shards number new ∙ solo.shards;
      pins = long ∙ solo.pins;
      each = λ other below. each_of other below (cases_eq other number);
    }
      where
        each_of : (other : ℕ) → other < s.config.shards → (other ≡ number) ⊎ (other ≢ number)
            → IsShardOf s.config s.journal other (get_or (set s.shards number new) other no_shard) (get_or pins other None)
        each_of other below (inl same) =
            subst (λ (n : ℕ). IsShardOf s.config s.journal n (get_or (set s.shards number new) n no_shard) (get_or pins n None)) (sym same)
            (subst (λ (shard : ShardState). IsShardOf s.config s.journal number shard (get_or pins number None))
            (sym (get_or-set_same s.shards number new no_shard low_shards)) here)
        each_of other below (inr apart) =
            subst (λ (shard : ShardState). IsShardOf s.config s.journal other shard (get_or pins other None))
            (sym (get_or-set_other s.shards number other new no_shard apart))
            (subst (IsShardOf s.config s.journal other (shard_of s other)) (sym (others other apart)) (solo.each other below))

    -- where the desk then left the shard
    pub changed_left : (pins : List (Option Pin)) (last done late : ℕ)
        → left_at (desk_of (solo_of s.config s.journal last (set s.shards number new) pins done late)) number ≡ new.current.at
    changed_left pins last done late =
        left_there (solo_of s.config s.journal last (set s.shards number new) pins done late) number
        ∙ ap (λ (shard : ShardState). shard.current.at) (get_or-set_same s.shards number new no_shard low_shards)

    pub changed_lefts : (pins : List (Option Pin)) (last done late : ℕ)
        → map (λ shard. shard.current.at) (set s.shards number new)
        ≡ set (map (λ shard. shard.current.at) s.shards) number
        (left_at (desk_of (solo_of s.config s.journal last (set s.shards number new) pins done late)) number)
    changed_lefts pins last done late =
        map-set (λ (shard : ShardState). shard.current.at) s.shards number new
        ∙ ap (set (map (λ (shard : ShardState). shard.current.at) s.shards) number) (sym (changed_left pins last done late))

    pub changed_places : map place_of (set s.shards number new) ≡ set (map place_of s.shards) number (place_of new)
    changed_places = map-set place_of s.shards number new

    -- ---- it came to a front
    module _ (position : ℕ) (comes : ComesTo s.journal position (shard_of s number) new) where
      came_own : (pin : Option Pin) → pin_position pin ≤ new.current.at → IsShardOf s.config s.journal number new pin
      came_own pin pinned = record {
        rule = comes.rule;
        shard_is = comes.shard_is ∙ own.shard_is;
        shards_are = comes.shards_are ∙ own.shards_are;
        bits_are = ap (λ (laid : Laid). laid.bits) comes.layout_is ∙ own.bits_are;
        pinned = pinned;
      }

      -- without a version
      pub solo_came : IsSoloDesk words (solo_of s.config s.journal s.last (set s.shards number new) s.pins s.done s.late)
      solo_came = solo_with s.pins s.last s.done s.late refl (λ _ _. refl)
          (came_own (get_or s.pins number None) (omega (arith, own.pinned, comes.never_back)))

      -- with one
      pub solo_pinned : (pin : Pin) → pin.0 ≤ new.current.at
          → IsSoloDesk words (solo_of s.config s.journal s.last (set s.shards number new) (set s.pins number (Some pin)) s.done s.late)
      solo_pinned pin reached = solo_with (set s.pins number (Some pin)) s.last s.done s.late (length-set s.pins number (Some pin))
          (λ other apart. get_or-set_other s.pins number other (Some pin) None apart)
          (subst (IsShardOf s.config s.journal number new) (sym (get_or-set_same s.pins number (Some pin) None low_pins)) (came_own (Some pin) reached))

      pub came : (pins : List (Option Pin))
          → Comes (desk_of s) (desk_of (solo_of s.config s.journal s.last (set s.shards number new) pins s.done s.late)) number pins
      came pins = record {
        learns = learns_nothing (desk_of s);
        after = ap (λ (left : List ℕ). (record (desk_of (solo_of s.config s.journal s.last (set s.shards number new) pins s.done s.late)) { left = left }))
            (changed_lefts pins s.last s.done s.late);
        places = λ alone. changed_places ∙ ap (set (map place_of s.shards) number)
            (ap (λ (at : ℕ). (at, new.current.layout)) (sym (changed_left pins s.last s.done s.late))
            ∙ ap (λ (laid : Laid).
            (left_at (desk_of (solo_of s.config s.journal s.last (set s.shards number new) pins s.done s.late)) number, laid))
            (comes.layout_is ∙ sym (ap (λ (place : ShardPlace). place.1) (placed_there s number))));
        never_back = λ alone. omega (
          arith,
          comes.never_back,
          changed_left pins s.last s.done s.late,
          ap (λ (place : ShardPlace). place.0)
              (placed_there s number),
        );
      }

      -- the rows of a version that it gives
      module _ (version : Contents) (gives : GivesVersion s.journal.history position new version) where
        given_rows : version.rows ≡ shard_rows number s.config.shards (rows_of (take position (cut_history s.config.bits s.journal.history)))
        given_rows =
            let here = came_own None (omega arith) in
            let shard_is = gives.shard_is ∙ here.shard_is in
            let shards_are = gives.shards_are ∙ here.shards_are in
            let bits_are = gives.bits_are ∙ here.bits_are in
            ap (λ (each : Contents). each.rows) gives.rows
            ∙ ap (λ (n : ℕ). shard_rows n version.shards (rows_of (take position (cut_history version.layout.bits s.journal.history)))) shard_is
            ∙ ap (λ (n : ℕ). shard_rows number n (rows_of (take position (cut_history version.layout.bits s.journal.history)))) shards_are
            ∙ ap (λ (n : ℕ). shard_rows number s.config.shards (rows_of (take position (cut_history n s.journal.history)))) bits_are

        given_version : (pins : List (Option Pin))
            → IsVersionOf (desk_of (solo_of s.config s.journal s.last (set s.shards number new) pins s.done s.late)) number position version
        given_version pins =
            let here = came_own None (omega arith) in
            record {
              sound = gives.sound;
              shard_is = gives.shard_is ∙ here.shard_is;
              shards_are = gives.shards_are ∙ here.shards_are;
              bits_are = gives.bits_are ∙ here.bits_are;
              at = gives.at;
              rows = given_rows;
            }

        -- and what it did
        pub solo_pins : (front : FrontState) (pin : Pin) → position_of front ≡ position → pin ≡ (position_of front, layout_text version.layout.parts)
            → new.current.at ≡ max (shard_of s number).current.at position
            → PinsVersion (desk_of s) (desk_of (solo_of s.config s.journal s.last (set s.shards number new)
            (set s.pins number (Some pin)) s.done s.late)) front number version
        solo_pins front pin here is reached =
            let pins = set s.pins number (Some pin) in
            let after = desk_of (solo_of s.config s.journal s.last (set s.shards number new) pins s.done s.late) in
            let place = placed_there s number in
            record {
              comes = subst (λ (p : Pin). Comes (desk_of s) after number (set s.pins number (Some p))) is (came pins);
              version_is = subst (λ (n : ℕ). IsVersionOf after number n version) (sym here) (given_version pins);
              reached = omega (arith, reached, here, changed_left pins s.last s.done s.late);
              alone = λ alone. omega (arith, reached, here, changed_left pins s.last s.done s.late, ap (λ (each : ShardPlace). each.0) place);
              layout = λ alone whole. gives.layout_is (sym here ∙ whole) ∙ comes.layout_is ∙ sym (ap (λ (each : ShardPlace). each.1) place);
            }

  -- the text of the layout in which a shard stands
  pub solo_tells : (number : ℕ) → number < s.config.shards → (text : List ℕ) → text ≡ layout_text (shard_of s number).current.layout.parts
      → TellsLayout (desk_of s) (desk_of s) number text
  solo_tells number low text is =
      let own = solo.each number low in
      let place = placed_there s number in
      record {
        learns = learns_nothing (desk_of s);
        after = ap (λ (left : List ℕ). (record (desk_of s) { left = left }))
            (sym (set-get_or (map (λ (shard : ShardState). shard.current.at) s.shards) number 0));
        laid = (shard_of s number).current.layout;
        is_laid = own.rule.laid;
        bits = own.bits_are;
        text = is;
        pinned = omega (arith, own.pinned, left_there s number);
        alone = λ alone. (sym (ap (λ (each : ShardPlace). each.1) place), left_there s number ∙ sym (ap (λ (each : ShardPlace). each.0) place));
      }

-- the shard that is found at its place, whatever stands for none
pub shard_found : (words : ℕ) (s : SoloState) (number : ℕ) (found none : ShardState) → IsSoloDesk words s → number < s.config.shards
    → found ≡ get_or s.shards number none → found ≡ shard_of s number
shard_found words s number found none solo low is = is ∙ get_or_default s.shards number none no_shard (omega (arith, low, solo.shards))
