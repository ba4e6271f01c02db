-- The marked sources are those that may have the next hit.
use Rattle.std.proofs.Common.{refl, arith, ap, ◌∙◌, ◌≡◌, ◌≤◌, length, take, drop}
use Rattle.scatter_gather.proofs.RoundLemmas.{marked_empty, polls_all, lent_back}
use Rattle.scatter_gather.proofs.round.poll_all.Goals as goal

pub poll_marked-requires-clause-empty : goal.poll_marked-requires-clause-empty
poll_marked-requires-clause-empty g c =
    λ κs lives. marked_empty g.H.HitSource.asked g.H.HitSource.standing c.args.sources.now c.mark.new.marks
    c.mark.ensures

pub returns : goal.returns
returns g c =
    let n = length c.args.sources.now in
    let front = c.split_at_mut-ours.ensures.front ∙ ap (take n) c.as_mut.ensures.value in
    let back = c.split_at_mut-ours.ensures.back ∙ ap (drop n) c.as_mut.ensures.value in
    let fits : n ≤ length c.args.meters.now =
    omega (arith, c.requires.few, c.as_mut.ensures.sixteen, ap length c.as_mut.ensures.value) in
    let size : length c.poll_marked.new.meters ≡ n =
    omega (arith, c.poll_marked.auto.meters, c.split_at_mut-ours.ensures.front_len) in
    let each = rw front at c.poll_marked.ensures.each in
    rw back
    (polls_all g.H.HitSource.asked g.H.HitSource.standing c.args.budget n c.args.sources.now c.poll_marked.new.sources
    c.args.meters.now c.poll_marked.new.meters _ c.mark.new.marks c.mark.ensures
    refl (omega (arith, c.poll_marked.auto.sources)) fits size
    (lent_back n c.args.meters.now c.poll_marked.new.meters _ size fits refl) each)
