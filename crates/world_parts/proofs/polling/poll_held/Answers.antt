-- What the poll of the gathering does, it does to the query's.
use Rattle.std.proofs.Common.{refl, sym, ◌∙◌}
use Rattle.world_parts.proofs.HeldLemmas.{held_is}
use Rattle.world_parts.proofs.polling.poll_held.Goals as goal

pub returns : goal.returns
returns g c = record {
  before = c.in-Some.gather;
  after = c.poll_told-said.new.gather;
  was = c.requires.sources.is_known ∙ sym c.requires.sources.is_there ∙ c.in-Some.is;
  now = held_is _ _ refl refl refl refl refl refl refl refl c.of.ensures;
  polls = c.poll_told-said.ensures.polls;
  lawful = c.poll_told-said.ensures.lawful;
}
