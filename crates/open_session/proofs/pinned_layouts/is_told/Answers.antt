-- The last item of the shard is found from the end.
use Rattle.std.proofs.Common.{◌≡◌, ◌-◌, Some, sym, ap, ◌∙◌, get_or, map, arith}
use Rattle.std.proofs.lemmas.List.{get_or_default}
use Rattle.std.specs.Arc.{arc_value}
use Rattle.part_layout.specs.Laid.{Laid}
use Rattle.session_model.specs.Told.{is_same_layout}
use Rattle.open_session.specs.declared.pinned_layouts.LayoutFrom.{LayoutFrom}
use Rattle.open_session.specs.Pinned.{told_layout}
use Rattle.open_session.proofs.PinnedLemmas.{has_by, other_item, own_item, up_to_item}
use Rattle.open_session.proofs.pinned_layouts.is_told.Goals as goal

pub returns-then-told-left : goal.returns-then-told-left
returns-then-told-left c =
    let told = c.args.told.now in
    let left = c.loop-left.left in
    let item = c.index-told-left.result in
    let again = c.index-told-left-then-told-left in
    let front = up_to_item told left (left - 1) item (omega (arith, c.loop-left-test.true))
    (omega (arith, c.loop-left-test.true, c.loop-left.invariant.0)) c.index-told-left.is in
    let same : get_or told (left - 1) again.result ≡ item =
    get_or_default told (left - 1) again.result item (omega (arith, c.loop-left-test.true, c.loop-left.invariant.0))
    ∙ sym c.index-told-left.is in
    c.is_same.ensures
    ∙ ap (λ (l : Laid). is_same_layout l.parts c.args.layout.now.parts)
    (c.deref.ensures ∙ ap (λ (i : LayoutFrom). arc_value i.layout) same)
    ∙ sym (has_by (map told_layout told) c.args.shard c.args.layout.now.parts (Some (told_layout item).layout)
    (c.loop-left.invariant.1 ∙ own_item told left (left - 1) item front c.args.shard
    (omega (arith, ap (λ (i : LayoutFrom). i.shard) c.index-told-left.is, c.if-told-left.true))))

pub loop-left-preserved : goal.loop-left-preserved
loop-left-preserved c =
    let told = c.args.told.now in
    let left = c.loop-left.left in
    let item = c.index-told-left.result in
    let front = up_to_item told left (left - 1) item (omega (arith, c.loop-left-test.true))
    (omega (arith, c.loop-left-test.true, c.loop-left.invariant.0)) c.index-told-left.is in (
      omega (arith, c.loop-left.invariant.0),
      c.loop-left.invariant.1 ∙ other_item told left (left - 1) item front c.args.shard
          (λ e. c.if-told-left.false (omega (arith, e, ap (λ (i : LayoutFrom). i.shard) c.index-told-left.is))),
    )
