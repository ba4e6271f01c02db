-- What the gathering tells, the query tells.
use Rattle.std.proofs.Common.{refl, sym, ◌∙◌}
use Rattle.world_parts.proofs.HeldLemmas.{held_is}
use Rattle.world_parts.proofs.giving.give_held.Goals as goal

pub returns : goal.returns
returns g c = record {
  before = c.in-Some.gather;
  after = c.next_told-said.new.gather;
  was = c.requires.sources.is_known ∙ sym c.requires.sources.is_there ∙ c.in-Some.is;
  now = held_is _ _ refl refl refl refl refl refl refl refl c.of.ensures;
  tells = c.next_told-said.ensures.tells;
  lawful = c.next_told-said.ensures.lawful;
}
