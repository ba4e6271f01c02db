-- A desk whose shards are pinned one after the other.
use Rattle.std.proofs.Common.{◌≡◌, ◌≢◌, ◌⊎◌, inl, inr, ℕ, zero, suc, ◌+◌, ◌-◌, ◌<◌, ◌≤◌, List, [], ◌∷◌, ◌++◌, length, take, get_or, set, Option, Some, None, refl, sym, ap, subst, ◌∙◌, arith}
use Rattle.std.specs.List.{AllByRecursion}
use Rattle.std.proofs.lemmas.Bool.{cases_eq, cases_lt}
use Rattle.std.proofs.lemmas.List.{append_assoc, append-nil, get_or-set_other, get_or-set_same, length-append, length-map, length-set, map-append, take-append-le}
use Rattle.hamming_model.specs.History.{JournalEntry, rows_of, shard_rows}
use Rattle.hamming_model.specs.Recoded.{cut_entry, cut_history}
use Rattle.part_layout.specs.Text.{layout_text}
use Rattle.part_layout.specs.declared.config.Config.{Config}
use Rattle.shard_version.specs.Contents.{Contents}
use Rattle.commit_journal.specs.Fronts.{FrontState, position_of}
use Rattle.session_desk.specs.Calls.{Comes, Learns, PinsVersion}
use Rattle.session_desk.specs.Desks.{DeskState, IsVersionOf, Pin, ShardPlace, left_at, no_place, pin_position, pinned_at}
use Rattle.query_opening.specs.Pinning.{ComesOn, IsPinnedShard, PinsFirst, behind}

all_both : (P : JournalEntry → Type 0) (first second : List JournalEntry) → AllByRecursion P first → AllByRecursion P second
    → AllByRecursion P (first ++ second)
all_both P [] second all others = others
all_both P (entry ∷ first) second all others = (all.0, all_both P first second all.1 others)

-- what is learned in two calls
pub learns_both : (old mid : DeskState) (seen : List JournalEntry) → Learns old mid.seen → Learns mid seen → mid.who ≡ old.who → mid.alone ≡ old.alone
    → Learns old seen
learns_both old mid seen first second who alone = record {
  more = first.more ++ second.more;
  longer = second.longer ∙ ap (λ (each : List JournalEntry). each ++ second.more) first.longer ∙ append_assoc old.seen first.more second.more;
  others = all_both (λ entry. entry.who ≢ old.who) first.more second.more first.others
      (subst (λ (n : ℕ). AllByRecursion (λ entry. entry.who ≢ n) second.more) who second.others);
  all = λ is. ap (λ (each : List JournalEntry). each ++ second.more) (first.all is) ∙ second.all (alone ∙ is);
}

-- what was seen doesn't get shorter
pub learns_length : (old : DeskState) (seen : List JournalEntry) → Learns old seen → length old.seen ≤ length seen
learns_length old seen learns = omega (arith, ap length learns.longer, length-append old.seen learns.more)

-- the first entries stay the first
first_stays : (old new : DeskState) (position : ℕ) → Learns old new.seen → position ≤ length old.seen → (bits : ℕ)
    → take position (cut_history bits new.seen) ≡ take position (cut_history bits old.seen)
first_stays old new position learns within bits =
    ap (λ (seen : List JournalEntry). take position (cut_history bits seen)) learns.longer
    ∙ ap (take position) (map-append (cut_entry bits) old.seen learns.more)
    ∙ take-append-le position (cut_history bits old.seen) (cut_history bits learns.more) (omega (arith, within, length-map old.seen (cut_entry bits)))

-- and so a version of them stays one
pub version_stays : (old new : DeskState) (shard position : ℕ) (version : Contents) → Learns old new.seen → new.config ≡ old.config → position ≤ length old.seen
    → IsVersionOf old shard position version → IsVersionOf new shard position version
version_stays old new shard position version learns config within is = record {
  sound = is.sound;
  shard_is = is.shard_is;
  shards_are = is.shards_are ∙ sym (ap (λ (each : Config). each.shards) config);
  bits_are = is.bits_are ∙ sym (ap (λ (each : Config). each.bits) config);
  at = is.at;
  rows = is.rows
      ∙ ap (λ (entries : List JournalEntry). shard_rows shard old.config.shards (rows_of entries))
      (sym (first_stays old new position learns within old.config.bits))
      ∙ ap (λ (each : Config). shard_rows shard each.shards (rows_of (take position (cut_history each.bits new.seen)))) (sym config);
}

-- a shard that moves keeps every layout
layout_kept : (places : List ShardPlace) (shard other at : ℕ)
    → (get_or (set places shard (at, (get_or places shard no_place).1)) other no_place).1 ≡ (get_or places other no_place).1
layout_kept [] zero other at = refl
layout_kept [] (suc shard) other at = refl
layout_kept (place ∷ places) zero zero at = refl
layout_kept (place ∷ places) zero (suc other) at = refl
layout_kept (place ∷ places) (suc shard) zero at = refl
layout_kept (place ∷ places) (suc shard) (suc other) at = layout_kept places shard other at

-- no shard came on so far
pub none_came : (desk : DeskState) → ComesOn desk desk
none_came desk = record {
  learns = record { more = []; longer = sym (append-nil desk.seen); others = tt; all = λ _. refl };
  board = refl;
  who = refl;
  config = refl;
  fronts = refl;
  done = refl;
  late = refl;
  alone = refl;
  number = refl;
  rises = λ shard within. omega arith;
  layouts = λ _ _. refl;
}

-- one shard more came on
one_came : (old mid new : DeskState) (shard : ℕ) (pins : List (Option Pin)) → ComesOn old mid → Comes mid new shard pins → length pins ≡ length mid.pins
    → ((other : ℕ) → pinned_at old other ≤ length old.seen → pinned_at old other ≤ pinned_at new other) → ComesOn old new
one_came old mid new shard pins first second same further = record {
  learns = learns_both old mid new.seen first.learns second.learns first.who first.alone;
  board = ap (λ (d : DeskState). d.board) second.after ∙ first.board;
  who = ap (λ (d : DeskState). d.who) second.after ∙ first.who;
  config = ap (λ (d : DeskState). d.config) second.after ∙ first.config;
  fronts = ap (λ (d : DeskState). d.fronts) second.after ∙ first.fronts;
  done = ap (λ (d : DeskState). d.done) second.after ∙ first.done;
  late = ap (λ (d : DeskState). d.late) second.after ∙ first.late;
  alone = ap (λ (d : DeskState). d.alone) second.after ∙ first.alone;
  number = ap (λ (d : DeskState). length d.pins) second.after ∙ same ∙ first.number;
  rises = further;
  layouts = λ is other.
      ap (λ (places : List ShardPlace). (get_or places other no_place).1) (second.places (first.alone ∙ is))
      ∙ layout_kept mid.places shard other (left_at new shard) ∙ first.layouts is other;
}

-- one shard more came nearer, and its pin stayed
pub failed_came : (old mid new : DeskState) (shard : ℕ) → ComesOn old mid → Comes mid new shard mid.pins → ComesOn old new
failed_came old mid new shard first second = one_came old mid new shard mid.pins first second refl (λ other within.
    let same : pinned_at new other ≡ pinned_at mid other = ap (λ (d : DeskState). pinned_at d other) second.after in
    omega (arith, first.rises other within, same))

pub last_of : {A : Type 0} (items : List A) (item none : A) → get_or (items ++ item ∷ []) (length items) none ≡ item
last_of [] item none = refl
last_of (first ∷ items) item none = last_of items item none

pub before_last : {A : Type 0} (items : List A) (item none : A) (i : ℕ) → i < length items → get_or (items ++ item ∷ []) i none ≡ get_or items i none
before_last [] item none i low = absurd (omega arith)
before_last (first ∷ items) item none zero low = refl
before_last (first ∷ items) item none (suc i) low = before_last items item none i (omega arith)

-- one shard more is pinned
module _ (old mid new : DeskState) (front : FrontState) (versions : List Contents) (number : ℕ) (version : Contents)
    (first : PinsFirst old mid (position_of front) versions number) (pins : PinsVersion mid new front number version) (low : number < old.config.shards) where
  new_pins : new.pins ≡ set mid.pins number (Some (position_of front, layout_text version.layout.parts))
  new_pins = ap (λ (d : DeskState). d.pins) pins.comes.after

  pinned_mid : position_of front ≤ length mid.seen
  pinned_mid = omega (arith, first.whole, learns_length old mid.seen first.comes.learns)

  config_same : new.config ≡ mid.config
  config_same = ap (λ (d : DeskState). d.config) pins.comes.after

  others_stay : (shard : ℕ) → shard ≢ number → get_or new.pins shard None ≡ get_or mid.pins shard None
  others_stay shard apart =
      ap (λ (each : List (Option Pin)). get_or each shard None) new_pins
      ∙ get_or-set_other mid.pins number shard (Some (position_of front, layout_text version.layout.parts)) None apart

  pinned_here : pinned_at new number ≡ position_of front
  pinned_here = ap pin_position (ap (λ (each : List (Option Pin)). get_or each number None) new_pins
      ∙ get_or-set_same mid.pins number (Some (position_of front, layout_text version.layout.parts)) None (omega (arith, low, first.all)))

  further_by : (other : ℕ) → pinned_at old other ≤ length old.seen → (other ≡ number) ⊎ (other ≢ number) → pinned_at old other ≤ pinned_at new other
  further_by other within (inl here) = omega (arith, within, ap (pinned_at new) here, pinned_here, first.whole)
  further_by other within (inr apart) =
      let same : pinned_at new other ≡ pinned_at mid other = ap pin_position (others_stay other apart) in
      omega (arith, first.comes.rises other within, same)

  -- the shard came on, with its pin
  pub came : ComesOn old new
  came = one_came old mid new number _ first.comes pins.comes
      (length-set mid.pins number (Some (position_of front, layout_text version.layout.parts)))
      (λ other within. further_by other within (cases_eq other number))

  pub pins_more : PinsFirst old new (position_of front) (versions ++ version ∷ []) (number + 1)
  pins_more = record {
    comes = came;
    last = ap (λ (d : DeskState). d.last) pins.comes.after ∙ first.last;
    whole = first.whole;
    all = ap length new_pins ∙ length-set mid.pins number (Some (position_of front, layout_text version.layout.parts)) ∙ first.all;
    number_is = length-append versions (version ∷ []) ∙ omega (arith, first.number_is);
    each = λ shard other below. go shard other below (cases_lt shard number);
    later = λ shard above. others_stay shard (λ same. omega (arith, same, above)) ∙ first.later shard (omega (arith, above));
  }
    where
      go : (shard : ℕ) (other : Contents) → shard < number + 1 → (shard < number) ⊎ (number ≤ shard)
          → IsPinnedShard old new (position_of front) shard (get_or (versions ++ version ∷ []) shard other)
      go shard other below (inl earlier) =
          let is = first.each shard other earlier in
          subst (λ (each : Contents). IsPinnedShard old new (position_of front) shard each)
          (sym (before_last versions version other shard (omega (arith, earlier, first.number_is)))) (record {
            version_is = version_stays mid new shard (position_of front) _ pins.comes.learns config_same pinned_mid is.version_is;
            pin = others_stay shard (λ same. omega (arith, same, earlier)) ∙ is.pin;
            layout = is.layout;
          })
      go shard other below (inr last) =
          let here : shard ≡ number = omega arith in
          subst (λ (n : ℕ). IsPinnedShard old new (position_of front) n (get_or (versions ++ version ∷ []) n other)) (sym here)
          (subst (λ (each : Contents). IsPinnedShard old new (position_of front) number each)
          (sym (ap (λ (n : ℕ). get_or (versions ++ version ∷ []) n other) (sym first.number_is) ∙ last_of versions version other)) (record {
            version_is = pins.version_is;
            pin = ap (λ (each : List (Option Pin)). get_or each number None) new_pins
                ∙ get_or-set_same mid.pins number (Some (position_of front, layout_text version.layout.parts)) None (omega (arith, low, first.all));
            layout = λ alone.
                pins.layout (first.comes.alone ∙ alone)
                (first.whole ∙ ap length (sym (first.comes.learns.longer ∙ ap (λ (more : List JournalEntry). old.seen ++ more) (first.comes.learns.all alone)
                ∙ append-nil old.seen)))
                ∙ first.comes.layouts alone number;
          }))

-- ---- upkeep

-- fewer shards are behind by less
fewer_behind : (pins : List (Option Pin)) (position number more : ℕ) → behind pins position number ≤ behind pins position (number + more)
fewer_behind pins position number zero =
    let is : number ≡ number + 0 = omega arith in
    subst (λ (n : ℕ). behind pins position number ≤ behind pins position n) is (omega arith)
fewer_behind pins position number (suc more) =
    let is : number + suc more ≡ suc (number + more) = omega arith in
    subst (λ (n : ℕ). behind pins position number ≤ behind pins position n) (sym is) (omega (arith, fewer_behind pins position number more))

module _ (old mid : DeskState) (position : ℕ) (versions : List Contents) (number from before to : ℕ) (first : PinsFirst old mid position versions number)
    (so_far : before ≤ from + behind old.pins position number) (step : to ≤ before + (position - pinned_at mid number)) where
  -- one shard more came on
  pub behind_more : to ≤ from + behind old.pins position (number + 1)
  behind_more =
      let is : number + 1 ≡ suc number = omega arith in
      let same : pinned_at mid number ≡ pin_position (get_or old.pins number None) = ap pin_position (first.later number (omega arith)) in
      subst (λ (n : ℕ). to ≤ from + behind old.pins position n) (sym is) (omega (arith, so_far, step, same))

  -- and no more than all of them
  pub behind_all : (shards : ℕ) → number < shards → to ≤ from + behind old.pins position shards
  behind_all shards low =
      let is : shards ≡ number + 1 + (shards - (number + 1)) = omega (arith, low) in
      subst (λ (n : ℕ). to ≤ from + behind old.pins position n) (sym is)
      (omega (arith, behind_more, fewer_behind old.pins position (number + 1) (shards - (number + 1))))
