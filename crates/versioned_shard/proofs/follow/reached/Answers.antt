-- One entry further, which fits and has room.
use Rattle.std.proofs.Common.{rules, ◌+◌, ◌<◌, ◌^◌, arith, take}
use Rattle.commit_journal.specs.Fronts.{position_of}
use Rattle.versioned_shard.specs.Shards.{contents_at}
use Rattle.versioned_shard.proofs.WayLemmas.{fits_here, means_here, reaches_more, room_here}
use Rattle.versioned_shard.proofs.follow.reached.Goals as goal

pub apply-requires : goal.apply-requires
apply-requires g c =
    let entries = c.args.front.now.entries in
    let from = contents_at c.args.version.now in
    let below : c.loop-place.place < position_of c.args.front.now = omega (arith, c.requires.below, c.loop-place-test.true) in
    let last = c.position-few.ensures.position in
    let most = c.position-few.ensures.few in
    let legal = (c.recoded_histories_are_alike.ensures.legal (take from.layout.bits) entries).1 c.position-few.ensures.front.legal in
    let means = means_here entries from c.loop-place.place c.entry-entry.result.now c.entry-entry.ensures.entry below
    c.loop-place.next.contents c.loop-place.invariant.0 c.requires.codes in
    let fits = fits_here entries from c.loop-place.place c.entry-entry.result.now c.entry-entry.ensures.entry below
    c.loop-place.next.contents c.loop-place.invariant.0
    c.versions_follow_the_history.ensures.fits legal in
    let room = room_here entries from c.loop-place.place c.entry-entry.result.now c.entry-entry.ensures.entry below
    c.loop-place.next.contents c.loop-place.invariant.0
    c.versions_follow_the_history.ensures.few (omega (arith, below, last, most)) in
    let few = c.requires.few_words in
    let counted : c.loop-place.next.contents.at + 1 < 2 ^ 64 = omega (arith, below, last, most, c.loop-place.invariant.0.at) in
    (search rules, (search rules, (few, (counted, (means, (fits, room))))))

pub loop-place-preserved : goal.loop-place-preserved
loop-place-preserved g c =
    let below : c.loop-place.place < position_of c.args.front.now = omega (arith, c.requires.below, c.loop-place-test.true) in (
      reaches_more c.args.front.now.entries (contents_at c.args.version.now) c.loop-place.place c.entry-entry.result.now
          c.entry-entry.ensures.entry below c.loop-place.next.contents
          c.loop-place.invariant.0 c.versions_follow_the_history.ensures.next c.in_ok-next-2.next.contents c.in_ok-next-2.ensures,
      omega (arith, c.entry-entry.ensures.step, c.loop-place.invariant.1),
    )
