use Rattle.std.proofs.Common.{refl}
use Rattle.layout_search.proofs.ArrangementLemmas.{put_seen}
use Rattle.layout_search.proofs.places.put_position.Goals as goal

pub returns : goal.returns
returns c =
    put_seen c.args.parts.now.items c.args.part c.args.place c.args.position c.index_mut.result.now _ c.requires.in_layout c.index_mut.ensures.value refl
