-- The line of a load, as far as the sink took it.
use Rattle.gph_serve.proofs.LoadLemmas.{loads, loads_partly}
use Rattle.gph_serve.proofs.load.load.Goals as goal

pub returns-in-Ok-send : goal.returns-in-Ok-send
returns-in-Ok-send g c =
    loads c.args.config.now c.args.number c.args.codes _ _ _ _ c.in-Some.sums _ c.write.ensures c.in-Some.ensures
    c.in-Ok-send.ensures.written c.in-Ok-send.ensures.cause

pub returns : goal.returns
returns g c =
    loads_partly c.args.config.now c.args.number c.args.codes _ _ _ _ c.in-Some.sums _ c.write.ensures c.in-Some.ensures
    c.in-Err.ensures.written c.in-Err.ensures.cause
