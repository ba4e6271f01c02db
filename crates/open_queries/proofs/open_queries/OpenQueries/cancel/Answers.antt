use Rattle.std.proofs.Common.{◌≡◌, ◌∙◌, ap, cond, sym, inr, subst, rules}
use Rattle.query_protocol.specs.Replies.{LineReply, line_of}
use Rattle.query_protocol.specs.Replies as reply
use Rattle.open_queries.specs.Queries.{IsFirstAt, Removes}
use Rattle.open_queries.specs.Kept.{AreKept}
use Rattle.open_queries.specs.Answers.{reply_to_cancel}
use Rattle.open_queries.proofs.TagLemmas.{removes_at, all_without}
use Rattle.open_queries.proofs.open_queries.OpenQueries.cancel.Goals as goal
use Rattle.open_queries.proofs.open_queries.OpenQueries.cancel.Goals.{then-query, else-query}

pub returns-after-query : goal.returns-after-query
returns-after-query g c =
    let before = c.remove-query.result in
    let tag = c.args.tag.now in
    let at = subst (λ queries. IsFirstAt queries tag c.in-Some.place) c.deref.ensures.value c.in-Some.ensures in
    let closed = reply.Closed tag before.gather.given in
    let cancelled = reply.Cancelled tag before.gather.given in
    let told : line_of c.if-query.result ≡ reply_to_cancel tag before =
    elim c.if-query.branch [
      | then-query w ↦ ap line_of w.result-is ∙ ap (reply.Closed tag) c.cancel-count.ensures.given
          ∙ ap (λ b. cond b closed cancelled) (sym w.if-query.true)
      | else-query w ↦ ap line_of w.result-is ∙ ap (reply.Cancelled tag) c.cancel-count.ensures.given
          ∙ ap (λ b. cond b closed cancelled) (sym w.if-query.false)
    ] in
    inr (
      before,
      subst (λ old. Removes old c.remove-query.new.self.items tag before) c.self.view_is
          (removes_at c.self.inside.queries.items tag c.in-Some.place before c.remove-query.new.self.items
          c.self.invariant.1.own at (search rules)
          c.remove-query.ensures.by_index.2),
      told,
    )

pub invariant_of-self : goal.invariant_of-self
invariant_of-self g c =
    let asks = g.H.HitSource.asked in
    let stands = g.H.HitSource.standing in (
      search rules,
      subst (AreKept asks stands) (sym c.remove-query.ensures.by_index.2)
          (all_without asks stands c.self.inside.queries.items c.in-Some.place c.self.invariant.1),
    )
