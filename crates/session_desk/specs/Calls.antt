-- What the calls of a desk make of it. Each relation says all that may change.
use Rattle.std.specs.Prelude.{◌≡◌, ◌≢◌, ◌↔◌, ◌==◌, ◌&&◌, ℕ, ◌+◌, ◌≤◌, nat_lt, max, Bool, true, if◌then◌else◌, List, [], ◌++◌, length, Option, Some, None, slice_set}
use Rattle.std.specs.FinMap as map
use Rattle.std.specs.List.{AllByRecursion}
use Rattle.hamming_model.specs.History.{Operation, JournalEntry, after_decision, decision_on}
use Rattle.entry_log.specs.Decisions.{decision_of}
use Rattle.part_layout.specs.Laid.{Laid, IsLaid}
use Rattle.part_layout.specs.Text.{layout_text}
use Rattle.shard_version.specs.Contents.{Contents}
use Rattle.commit_journal.specs.declared.decided.Decided.{Decided}
use Rattle.commit_journal.specs.Fronts.{FrontState, live_at, position_of}
use Rattle.session_desk.specs.Desks.{DeskState, IsOwnFront, IsVersionOf, Pin, left_at, pinned_at, place_at}

-- what was seen before begins what is seen after, and the new entries are of others; a desk that is
-- alone learns none
pub record Learns (old : DeskState) (seen : List JournalEntry) : Type 0 where
  pub more : List JournalEntry
  pub longer : seen ≡ old.seen ++ more
  pub others : AllByRecursion (λ entry. entry.who ≢ old.who) more
  pub all : old.alone ≡ true → more ≡ []

-- nothing but what is seen may change
pub record OnlyLearns (old new : DeskState) : Type 0 where
  pub learns : Learns old new.seen
  pub after : new ≡ record old { seen = new.seen }

-- what is known of own fronts stays known
abbrev pub KeepsKnown : DeskState → (FrontState → Type 0) → (FrontState → Type 0) → Type 0
KeepsKnown desk before after = (front : FrontState) → IsOwnFront desk front → before front
    → after front

-- a commit, decided on all that is seen after it but its own entry, which is the last one
pub record CommitsAt (old new : DeskState) (operation : Operation)
    (decided : Decided) : Type 0 where
  pub before : List JournalEntry
  pub learns : Learns old before
  pub decision : decision_of decided.decision ≡ decision_on before old.config.entries operation
  pub seen : new.seen ≡ after_decision before (record { who = old.who; operation = operation })
      (decision_of decided.decision)
  pub after : new ≡ record old { seen = new.seen }
  pub position : decided.position ≡ length new.seen

-- a front was opened at the length of all that is seen after it, under a number that no live front
-- of the desk had
pub record OpensFront (old new : DeskState) (front : FrontState) : Type 0 where
  pub learns : Learns old new.seen
  pub entries : front.entries ≡ new.seen
  pub who : front.who ≡ old.who
  pub fresh : live_at old.fronts front.id ≡ None
  pub after : new ≡ record old {
    seen = new.seen;
    last = length new.seen;
    fronts = map.insert old.fronts front.id (old.who, length new.seen);
  }

-- a front was closed
pub record ClosesFront (old new : DeskState) (front : FrontState) : Type 0 where
  pub learns : Learns old new.seen
  pub after : new ≡ record old { seen = new.seen; fronts = map.remove old.fronts front.id }

-- a shard came to a front or nearer, in the layout in which it stood, and the desk's pins are these
pub record Comes (old new : DeskState) (shard : ℕ) (pins : List (Option Pin)) : Type 0 where
  pub learns : Learns old new.seen
  pub after : new ≡ record old {
    seen = new.seen;
    pins = pins;
    left = slice_set old.left shard (left_at new shard);
    places = new.places;
  }
  pub places : old.alone ≡ true → new.places
      ≡ slice_set old.places shard (left_at new shard, (place_at old shard).1)
  pub never_back : old.alone ≡ true → (place_at old shard).0 ≤ left_at new shard

-- a shard came to a front, and gave its version there, which for a front at the length has the
-- layout in which it stands
pub record PinsVersion (old new : DeskState) (front : FrontState) (shard : ℕ)
    (version : Contents) : Type 0 where
  pub comes : Comes old new shard (slice_set old.pins shard
      (Some (position_of front, layout_text version.layout.parts)))
  pub version_is : IsVersionOf new shard (position_of front) version
  pub reached : position_of front ≤ left_at new shard
  pub alone : old.alone ≡ true → left_at new shard ≡ max (place_at old shard).0 (position_of front)
  pub layout : old.alone ≡ true → position_of front ≡ length old.seen → version.layout
      ≡ (place_at old shard).1

-- the text of a layout of the desk's bits, for a desk that is alone of the one in which the shard
-- stands
pub record TellsLayout (old new : DeskState) (shard : ℕ) (told : List ℕ) : Type 0 where
  pub learns : Learns old new.seen
  pub after : new ≡ record old {
    seen = new.seen;
    left = slice_set old.left shard (left_at new shard);
  }
  pub laid : Laid
  pub is_laid : IsLaid laid
  pub bits : laid.bits ≡ old.config.bits
  pub text : told ≡ layout_text laid.parts
  pub pinned : pinned_at old shard ≤ left_at new shard
  pub alone : old.alone ≡ true → (laid ≡ (place_at old shard).1)
      × (left_at new shard ≡ (place_at old shard).0)

-- a version that was made apart for a shard, with its rows of the first entries of what was seen
pub record IsMadeFor (desk : DeskState) (shard : ℕ) (version : Contents) : Type 0 where
  pub version_is : IsVersionOf desk shard version.at version
  pub within : version.at ≤ length desk.seen

-- a count of one more, which stays at the greatest number
abbrev pub one_more : ℕ → ℕ
one_more count = if count == 18446744073709551615 then count else count + 1

-- whether a prepared version at the last front's position is behind the shard: another desk must
-- have advanced it
abbrev pub is_late : ℕ → ℕ → ℕ → Bool
is_late last prepared_at shard_at = (prepared_at == last) && nat_lt last shard_at

-- a swap: Moved exactly where the prepared version stands at another position than the shard, and
-- else the shard has its layout
pub record Swaps (old new : DeskState) (shard : ℕ) (prepared : Contents)
    (moved : Bool) : Type 0 where
  pub learns : Learns old new.seen
  pub moved_is : moved ≡ true ↔ (prepared.at ≢ left_at new shard)
  pub pinned : pinned_at old shard ≤ left_at new shard
  pub after : new ≡ record old {
    seen = new.seen;
    left = slice_set old.left shard (left_at new shard);
    done = if moved then old.done else one_more old.done;
    late = if moved && is_late old.last prepared.at
        (left_at new shard) then one_more old.late else old.late;
    places = new.places;
  }
  pub places : old.alone ≡ true → new.places
      ≡ (if moved then old.places else slice_set old.places shard
      ((place_at old shard).0, prepared.layout))
  pub stays : old.alone ≡ true → left_at new shard ≡ (place_at old shard).0
