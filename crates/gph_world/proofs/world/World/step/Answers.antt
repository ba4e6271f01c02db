-- What isn't polled reads nothing.
use Rattle.std.proofs.Common.{refl}
use Rattle.world_model.specs.Events.{Cancel, Give, Pin}
use Rattle.gph_world.proofs.RunLemmas.{rise_by_none}
use Rattle.gph_world.proofs.world.World.step.Goals as goal

pub returns-in-Pin-clause-ledgers : goal.returns-in-Pin-clause-ledgers
returns-in-Pin-clause-ledgers g c =
    rise_by_none c.args.self.now.state c.pin.new.self.state c.args.meters.now (λ shard.
    c.reads_are_bounded.ensures.others c.args.self.now.setting c.args.self.now.state shard (Pin c.in-Pin.query c.in-Pin.shard) c.pin.result c.pin.new.self.state
    c.is_sound.ensures refl c.pin.ensures.step)

pub returns-in-Give-clause-ledgers : goal.returns-in-Give-clause-ledgers
returns-in-Give-clause-ledgers g c =
    rise_by_none c.args.self.now.state c.give.new.self.state c.args.meters.now (λ shard.
    c.reads_are_bounded.ensures.others c.args.self.now.setting c.args.self.now.state shard (Give c.in-Give.query) c.give.result c.give.new.self.state
    c.is_sound.ensures refl c.give.ensures.step)

pub returns-in-Cancel-clause-ledgers : goal.returns-in-Cancel-clause-ledgers
returns-in-Cancel-clause-ledgers g c =
    rise_by_none c.args.self.now.state c.cancel.new.self.state c.args.meters.now (λ shard.
    c.reads_are_bounded.ensures.others c.args.self.now.setting c.args.self.now.state shard (Cancel c.in-Cancel.query) c.cancel.result c.cancel.new.self.state
    c.is_sound.ensures refl c.cancel.ensures.step)
