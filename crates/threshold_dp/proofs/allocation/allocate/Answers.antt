use Rattle.std.proofs.Common.{◌+◌, map, subst, sym, ap, ◌∙◌, rules}
use Rattle.std.proofs.lemmas.List.{with_items_is}
use Rattle.threshold_model.specs.Vectors.{IsChoice, IsLeast, cost}
use Rattle.threshold_model.specs.Splits.{units_total, threshold_of}
use Rattle.threshold_dp.specs.Table.{pick_rows, follow}
use Rattle.threshold_model.proofs.BestLemmas.{choice_is, cost_is, least_is}
use Rattle.threshold_dp.proofs.allocation.allocate.Goals as goal

pub read_out-requires-clause-sum : goal.read_out-requires-clause-sum
read_out-requires-clause-sum g c =
    ap (λ picks. units_total (follow (pick_rows (c.args.tau + 2) c.args.parts picks) (c.args.tau + 1)))
    (c.as_slice.ensures.value ∙ with_items_is c.scratch.inside.picks c.solve-least.new.picks (search rules))
    ∙ c.solve-least.ensures.best.splits.sum

pub returns-clause-choice : goal.returns-clause-choice
returns-clause-choice g c =
    let same = c.as_slice.ensures.value ∙ with_items_is c.scratch.inside.picks c.solve-least.new.picks (search rules) in
    let entries = c.read_out.ensures.entries ∙ ap (λ picks. map threshold_of (follow (pick_rows (c.args.tau + 2) c.args.parts picks) (c.args.tau + 1))) same in
    subst (IsChoice (g.C.PartCounts.counts c.args.counts.now) c.args.tau c.args.parts) (sym entries)
    (choice_is (g.C.PartCounts.counts c.args.counts.now) c.args.tau c.args.parts
    (follow (pick_rows (c.args.tau + 2) c.args.parts c.solve-least.new.picks) (c.args.tau + 1)) c.solve-least.ensures.best)

pub returns-clause-cost : goal.returns-clause-cost
returns-clause-cost g c =
    let same = c.as_slice.ensures.value ∙ with_items_is c.scratch.inside.picks c.solve-least.new.picks (search rules) in
    let entries = c.read_out.ensures.entries ∙ ap (λ picks. map threshold_of (follow (pick_rows (c.args.tau + 2) c.args.parts picks) (c.args.tau + 1))) same in
    c.solve-least.ensures.cost
    ∙ sym
    (cost_is (g.C.PartCounts.counts c.args.counts.now) c.args.tau c.args.parts
    (follow (pick_rows (c.args.tau + 2) c.args.parts c.solve-least.new.picks) (c.args.tau + 1)) c.solve-least.ensures.best)
    ∙ ap (cost (g.C.PartCounts.counts c.args.counts.now)) (sym entries)

pub returns-clause-least : goal.returns-clause-least
returns-clause-least g c =
    subst (IsLeast (g.C.PartCounts.counts c.args.counts.now) c.args.tau c.args.parts) (sym c.solve-least.ensures.cost)
    (least_is (g.C.PartCounts.counts c.args.counts.now) c.args.tau c.args.parts
    (follow (pick_rows (c.args.tau + 2) c.args.parts c.solve-least.new.picks) (c.args.tau + 1)) c.solve-least.ensures.best)
