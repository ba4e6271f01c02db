-- Each shard keeps the rule where a front goes.
use Rattle.session_desk.proofs.SoloLemmas.{solo_closed}
use Rattle.session_desk.specs.Solos.{solo_of}
use Rattle.session_desk.proofs.solo.SoloDeskDesk.close_front.Goals as goal

pub invariant_of-self : goal.invariant_of-self
invariant_of-self g c =
    let i = c.self.inside in
    let s = solo_of i.config i.journal i.last i.shards.items i.pins.items i.done i.late in
    solo_closed g.row.W s c.self.invariant c.close_front.new.self c.args.front.id c.close_front.ensures.closed
    (λ shard rule. c.journals_keep_the_rule.ensures.closes i.journal c.args.front.id shard rule)
