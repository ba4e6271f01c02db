use Rattle.std.proofs.Common.{◌≡◌, ◌+◌, ◌-◌, map, sym, ap, ◌∙◌, subst, arith}
use Rattle.threshold_model.specs.Vectors.{IsChoice, cost}
use Rattle.threshold_model.specs.Splits.{threshold_of, table_count, units_total, IsBest}
use Rattle.threshold_model.proofs.BestLemmas.{each_few, choice_is, cost_is}
use Rattle.threshold_model.proofs.listed.least_by_listing.Goals as goal

pub thresholds_of-requires : goal.thresholds_of-requires
thresholds_of-requires c =
    record {
      narrow = λ k.
          let sum = c.in_ok-split.ensures.best.splits.sum in
          let same = ap units_total c.as_slice.ensures.value in
          omega (arith, each_few c.as_slice.result.now k, same, sum);
    }

pub returns-clause-choice : goal.returns-clause-choice
returns-clause-choice c =
    let same : c.in_ok-thresholds.thresholds.items ≡ map threshold_of c.in_ok-split.split.units.items =
    c.in_ok-thresholds.ensures.thresholds ∙ ap (map threshold_of) c.as_slice.ensures.value in
    let all : c.args.tau + 2 - 1 ≡ c.args.tau + 1 = omega arith in
    let best = subst (λ units. IsBest (table_count c.args.counts.now (c.args.tau + 2)) 0 c.args.parts units
    c.in_ok-split.split.units.items) all c.in_ok-split.ensures.best in
    subst (IsChoice (table_count c.args.counts.now (c.args.tau + 2)) c.args.tau c.args.parts) (sym same)
    (choice_is (table_count c.args.counts.now (c.args.tau + 2)) c.args.tau c.args.parts c.in_ok-split.split.units.items best)

pub returns-clause-cost : goal.returns-clause-cost
returns-clause-cost c =
    let same : c.in_ok-thresholds.thresholds.items ≡ map threshold_of c.in_ok-split.split.units.items =
    c.in_ok-thresholds.ensures.thresholds ∙ ap (map threshold_of) c.as_slice.ensures.value in
    let all : c.args.tau + 2 - 1 ≡ c.args.tau + 1 = omega arith in
    let best = subst (λ units. IsBest (table_count c.args.counts.now (c.args.tau + 2)) 0 c.args.parts units
    c.in_ok-split.split.units.items) all c.in_ok-split.ensures.best in
    c.in_ok-split.ensures.cost
    ∙ sym (cost_is (table_count c.args.counts.now (c.args.tau + 2)) c.args.tau c.args.parts c.in_ok-split.split.units.items best)
    ∙ ap (cost (table_count c.args.counts.now (c.args.tau + 2))) (sym same)
