-- What a session sees of its desk, and what it leaves as it was.
use Rattle.std.specs.Prelude.{◌≡◌, ℕ, true, List, map}
use Rattle.session_desk.specs.Desks.{DeskState, pin_position}

-- the layouts of the shards of a desk that is alone
abbrev pub layouts_of : DeskState → List (List (List ℕ))
layouts_of desk = map (λ place. place.1.parts) desk.places

-- the position of the last pin of each shard, 0 where there was none
abbrev pub pins_of : DeskState → List ℕ
pins_of desk = map pin_position desk.pins

-- what a line that puts no build in place leaves of a desk as it was, beside what it has seen and
-- how far the shards came
pub record KeepsDesk (old new : DeskState) : Type 0 where
  pub board : new.board ≡ old.board
  pub who : new.who ≡ old.who
  pub config : new.config ≡ old.config
  pub fronts : new.fronts ≡ old.fronts
  pub done : new.done ≡ old.done
  pub late : new.late ≡ old.late
  pub alone : new.alone ≡ old.alone
  pub layouts : old.alone ≡ true → layouts_of new ≡ layouts_of old

-- what a session leaves as it was of a desk: all but what it has seen, how far the shards came and
-- in which layouts they stand, and how many builds were put in place, or came late where the desk
-- isn't alone
pub record LeavesDesk (old new : DeskState) : Type 0 where
  pub board : new.board ≡ old.board
  pub who : new.who ≡ old.who
  pub config : new.config ≡ old.config
  pub fronts : new.fronts ≡ old.fronts
  pub late : old.alone ≡ true → new.late ≡ old.late
  pub alone : new.alone ≡ old.alone
