-- What the calls of a source of hits do to where it stands.
use Rattle.std.specs.Prelude.{◌≡◌, ℕ, ◌+◌, ◌<◌, ◌≤◌, ◌↔◌, ◌⊎◌, true, false, List, [], ◌∷◌, length, take, drop, Option, Some, None, IfSome, All}
use Rattle.hamming_model.specs.declared.hit.Hit.{Hit}
use Rattle.hit_source.specs.declared.polled.Polled.{Polled}
use Rattle.hit_source.specs.declared.polled.Polled.TheVariants.{Moved, Full, Ended}
use Rattle.hit_source.specs.Sources.{Asked, Standing, reached, radii_begun}

-- a floor doesn't fall: to have none is the highest
abbrev pub NotBelow : Option ℕ → Option ℕ → Type 0
NotBelow old None = Unit {0}
NotBelow None (Some new) = ⊥
NotBelow (Some old) (Some new) = old ≤ new

-- the radius begun last is the one before, or at most the floor
abbrev pub BeginsWithin : Option ℕ → Option ℕ → Option ℕ → Type 0
BeginsWithin floor old new =
    (new ≡ old) ⊎ IfSome new (λ radius. IfSome floor (λ most. radius ≤ most))

-- what a poll that no hit waited for answers: that the source has ended,
-- else that the room is full, else that it moved
pub record PollAnswers (a : Asked) (new : Standing) (result : Polled) : Type 0 where
  pub ended : (result ≡ Ended) ↔ (new.ended ≡ true)
  pub full : (result ≡ Full) ↔ ((new.ended ≡ false) × (length new.waiting ≡ a.room))

-- the next unit would begin a radius above a floor: every hit within the radii begun was given or
-- waits, and a hit waits or the floor has risen since
pub record AwaitsRadius (a : Asked) (floor : Option ℕ) (s : Standing) : Type 0 where
  pub near : a.near ≡ true
  pub above : IfSome floor (λ most. most < radii_begun s.begun)
  pub none_nearer : All (λ hit. radii_begun s.begun ≤ hit.dist) (drop (reached s) a.hits)
  pub onward : s.waiting ≡ [] → s.floor ≡ floor → ⊥

-- a poll takes units off, at most its budget where it begins no radius; it answers Moved only
-- after the whole budget, or where the next unit would begin a radius above the floor at entry
pub record PollSpends (budget : ℕ) (a : Asked) (old new : Standing) (result : Polled) : Type 0 where
  pub units : new.units ≤ old.units
  pub most : new.begun ≡ old.begun → old.units ≤ new.units + budget
  pub moved : result ≡ Moved → new.units < old.units
  pub whole : result ≡ Moved → (new.units + budget ≤ old.units) ⊎ AwaitsRadius a old.floor new

-- a source that had ended stays so, and does nothing more
pub record StaysEnded (old new : Standing) : Type 0 where
  pub ended : new.ended ≡ true
  pub reads : new.reads ≡ old.reads
  pub begun : new.begun ≡ old.begun

-- what a poll with a budget of units does, with the ledger before and after it
pub record Polls (budget : ℕ) (a : Asked) (old new : Standing) (from to : ℕ)
    (result : Polled) : Type 0 where
  pub given : new.given ≡ old.given
  pub floor : NotBelow old.floor new.floor
  pub rises : old.reads ≤ new.reads
  pub ledger : to + old.reads ≡ from + new.reads
  pub spent : new.reads + length new.waiting + radii_begun new.begun
      ≤ old.reads + radii_begun old.begun + budget
  pub begun : BeginsWithin old.floor old.begun new.begun
  pub farther : radii_begun old.begun ≤ radii_begun new.begun
  pub stays_ended : old.ended ≡ true → StaysEnded old new
  pub answers : PollAnswers a new result
  pub spends : PollSpends budget a old new result

-- the first hit of those that wait
abbrev pub first_of : List Hit → Option Hit
first_of [] = None
first_of (head ∷ rest) = Some head

-- taking the first hit that waits, if one does
pub record Pops (old new : Standing) (result : Option Hit) : Type 0 where
  pub head : result ≡ first_of old.waiting
  pub waiting : new.waiting ≡ drop 1 old.waiting
  pub given : new.given ≡ old.given + length (take 1 old.waiting)
  pub floor : NotBelow old.floor new.floor
  pub reads : new.reads ≡ old.reads
  pub ended : new.ended ≡ old.ended
  pub begun : new.begun ≡ old.begun
  pub units : new.units ≡ old.units
