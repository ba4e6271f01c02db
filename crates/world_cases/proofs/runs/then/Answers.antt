-- One event more.
use Rattle.std.proofs.Common.{◌∷◌, [], List, sym, subst}
use Rattle.std.specs.List.{AllByRecursion}
use Rattle.gph_world.specs.Happenings.{IsEventFor}
use Rattle.gph_world.specs.declared.event.Event.{Event}
use Rattle.world_model.proofs.Lookups.{all_joined}
use Rattle.world_cases.proofs.runs.then.Goals as goal

pub returns : goal.returns
returns g c =
    let z = c.args.world.now.setting in
    subst (λ (events : List (Event 1)). AllByRecursion (IsEventFor z) events) (sym c.in-Ok.ensures.items)
    (all_joined (IsEventFor z) c.args.script.now.events.items (c.args.event ∷ []) c.requires.before (c.requires.event, tt))
