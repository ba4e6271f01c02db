-- What a seat of the board knows of the journal.
use Rattle.std.specs.Prelude.{◌≡◌, ◌≢◌, ℕ, zero, suc, ◌+◌, ◌<◌, ◌==◌, ◌⊎◌, List, [], ◌∷◌, ◌++◌, if◌then◌else◌, Option, Some, None, is_some}
use mathlib.Core.List.{IsPrefix}
use Rattle.std.specs.List.{AllByRecursion}
use Rattle.hamming_model.specs.History.{JournalEntry}
use Rattle.part_layout.specs.declared.config.Config.{Config}
use Rattle.commit_journal.specs.Fronts.{FrontState, live_at}
use Rattle.commit_journal.specs.Journals.{IsLive, JournalState, KnowsFront}
use Rattle.versioned_shard.specs.Shards.{ShardState}
use Rattle.board_seats.specs.declared.rule.Cell.{Cell}
use Rattle.board_seats.specs.declared.rule.Opening.{Opening}
use Rattle.board_seats.specs.declared.rule.View.{View}

-- no entry of these is of this session, where there is one
abbrev pub AreOfOthers : Option ℕ → List JournalEntry → Type 0
AreOfOthers number entries =
    (session : ℕ) → number ≡ Some session → AllByRecursion (λ entry. entry.who ≢ session) entries

-- what was seen before begins what is seen after, and the new entries are of others
pub record LearnsMore (number : Option ℕ) (old new : List JournalEntry) : Type 0 where
  pub more : List JournalEntry
  pub longer : old ++ more ≡ new
  pub others : AreOfOthers number more

-- a front is one of these
abbrev pub AmongFronts : List FrontState → FrontState → Type 0
AmongFronts [] front = ⊥
AmongFronts (first ∷ fronts) front = (front ≡ first) ⊎ AmongFronts fronts front

-- the fronts without those of a number
abbrev pub without_id : ℕ → List FrontState → List FrontState
without_id id [] = []
without_id id (first ∷ fronts) =
    if first.id == id then without_id id fronts else first ∷ without_id id fronts

-- the fronts that a journal still has
abbrev pub living_fronts : JournalState → List FrontState → List FrontState
living_fronts journal [] = []
living_fronts journal (first ∷ fronts) =
    if is_some (live_at journal.live first.id) then first ∷ living_fronts journal fronts
    else living_fronts journal fronts

-- a live front of a session, which the journal knows
pub record IsOwnLive (journal : JournalState) (number : Option ℕ)
    (front : FrontState) : Type 0 where
  pub who : number ≡ Some front.who
  pub live : IsLive journal front
  pub knows : KnowsFront journal front

-- what a view knows is so of a board's Config and journal
pub record IsViewOf {W : ℕ} (config : Config) (journal : JournalState) (view : View W) : Type 0 where
  pub seen : LearnsMore view.number view.seen journal.history
  pub met : IsPrefix view.met journal.history
  pub number : (session : ℕ) → view.number ≡ Some session → session < journal.next
  pub config_is : (asked : Config) → view.config ≡ Some asked → asked ≡ config
  pub fronts : (front : FrontState) → AmongFronts view.fronts front
      → IsOwnLive journal view.number front

-- a view that holds nothing and left no shard
abbrev pub knower : {W : ℕ} → Option ℕ → List JournalEntry → ℕ → Option Config → List FrontState
    → View W
knower number seen next config fronts = record {
  number = number;
  seen = seen;
  met = [];
  next = next;
  config = config;
  fronts = fronts;
  held = None;
  left = [];
}

-- the view of a board's first seat, which has found the next number
abbrev pub first_view : {W : ℕ} → Opening → View W
first_view opening =
    knower (Some opening.number) [] (opening.number + 1) (Some opening.config) []

-- the view of a seat that was split off: it has no number and no front, and has seen the same
abbrev pub note_of : {W : ℕ} → View W → View W
note_of view = knower None view.seen view.next view.config []

-- the view of a seat that was joined away
abbrev pub spent_view : {W : ℕ} → View W
spent_view = knower None [] 0 None []

-- the view after a claim of the journal, which learns what that has
abbrev pub taking : {W : ℕ} → Config → JournalState → View W → View W
taking config journal view = record view {
  seen = journal.history;
  next = journal.next;
  config = Some config;
  held = Some (0, Cell.Journal journal);
}

-- the view after a release of the journal
abbrev pub settled_view : {W : ℕ} → JournalState → View W → View W
settled_view journal view = record view { seen = journal.history; held = None }

-- the same with a front more
abbrev pub with_front : {W : ℕ} → FrontState → JournalState → View W → View W
with_front front journal view =
    record (settled_view journal view) { fronts = front ∷ view.fronts }

-- the same with those fronts alone that the journal still has
abbrev pub with_living : {W : ℕ} → JournalState → View W → View W
with_living journal view =
    record (settled_view journal view) { fronts = living_fronts journal view.fronts }

-- the same with the number that it found
abbrev pub with_number : {W : ℕ} → JournalState → View W → View W
with_number journal view = record (settled_view journal view) { number = Some view.next }

-- a number is put at a place of a list, which is 0 wherever nothing was put
abbrev pub put_at : ℕ → ℕ → List ℕ → List ℕ
put_at zero n [] = n ∷ []
put_at zero n (x ∷ xs) = n ∷ xs
put_at (suc k) n [] = 0 ∷ put_at k n []
put_at (suc k) n (x ∷ xs) = x ∷ put_at k n xs

-- the view after a claim of a shard, which learns the history too
abbrev pub taking_shard : {W : ℕ} → Config → JournalState → ℕ → ShardState → View W → View W
taking_shard config journal k shard view = record view {
  seen = journal.history;
  config = Some config;
  held = Some (suc k, Cell.Shard shard);
}

-- the view after the release of a shard, which puts down where that stands
abbrev pub left_shard : {W : ℕ} → ℕ → ShardState → View W → View W
left_shard k shard view =
    record view { held = None; left = put_at k shard.current.at view.left }
