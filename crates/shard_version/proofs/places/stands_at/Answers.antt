use Rattle.shard_version.proofs.PlaceLemmas.{stands_here, stands_nowhere}
use Rattle.shard_version.proofs.places.stands_at.Goals as goal

pub returns-then-place-rows : goal.returns-then-place-rows
returns-then-place-rows g c = stands_here c.args.rows.now c.args.key c.args.place c.index-rows-place.result c.requires.ascending
    c.requires.place c.if-place-rows.true

pub returns-else-place-rows : goal.returns-else-place-rows
returns-else-place-rows g c = stands_nowhere c.args.rows.now c.args.key c.args.place c.requires.place c.if-place-rows.false
