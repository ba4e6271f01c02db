-- How a source gets on by units of work, and a source that reads a window's hits.
use Rattle.std.specs.Prelude.{◌≡◌, ℕ, ◌+◌, ◌≤◌, ◌⊎◌, Bool, true, length, Option, None}
use Rattle.hit_source.specs.Sources.{Asked, Standing, radii_begun}
use Rattle.hit_source.specs.Moves.{NotBelow, BeginsWithin, StaysEnded}
use Rattle.hit_source.specs.Windows.{Window, left_of, waiting_of, first_distance}

-- what so many units of work do to where a source stands, of which none begins a radius above the
-- limit, with the ledger before and after them: each takes one off the units left, and only where
-- a radius is begun the units left may be fewer
pub record Works (limit : Option ℕ) (count : ℕ) (old new : Standing) (from to : ℕ) : Type 0 where
  pub given : new.given ≡ old.given
  pub floor : NotBelow old.floor new.floor
  pub idle : count ≡ 0 → new.floor ≡ old.floor
  pub rises : old.reads ≤ new.reads
  pub ledger : to + old.reads ≡ from + new.reads
  pub spent : new.reads + length new.waiting + radii_begun new.begun
      ≤ old.reads + length old.waiting + radii_begun old.begun + count
  pub begun : BeginsWithin limit old.begun new.begun
  pub farther : radii_begun old.begun ≤ radii_begun new.begun
  pub stays_ended : old.ended ≡ true → StaysEnded old new
  pub units : new.units + count ≤ old.units
  pub exact : new.begun ≡ old.begun → new.units + count ≡ old.units

-- no unit of work can be done: it has ended, or the room is full
abbrev pub IsStopped : Asked → Standing → Type 0
IsStopped a s = (s.ended ≡ true) ⊎ (length s.waiting ≡ a.room)

-- where a source stands whose hits are those of a window
abbrev pub window_standing : Window → ℕ → Bool → ℕ → Standing
window_standing w reads ended units =
    record {
      given = w.given;
      waiting = waiting_of w;
      floor = first_distance (left_of w);
      reads = reads;
      ended = ended;
      begun = None;
      units = units;
    }
