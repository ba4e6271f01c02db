use Rattle.std.proofs.Common.{rules, length, ap, sym, ◌∙◌, arith, subst}
use Rattle.std.proofs.lemmas.List.{with_items_is}
use Rattle.exchange_model.proofs.ExchangeLemmas.{exchanged_twice, length_exchanged}
use Rattle.part_layout.specs.Laid.{IsLaid, Laid}
use Rattle.layout_search.specs.Arranged.{exchanged_in}
use Rattle.layout_search.specs.Inside.{AreTables, IsSearchTask, cost_at}
use Rattle.layout_search.specs.Trial.{AreTablesBeside}
use Rattle.layout_search.proofs.TrialLemmas.{beside_exchanged}
use Rattle.layout_search.proofs.search.Search.cost_after.Goals as goal

pub trial_cost-cost-requires : goal.trial_cost-cost-requires
trial_cost-cost-requires g c =
    let ready = c.requires.ready in
    let own = c.args.self.now in
    let is = c.exchange.ensures.exchanged in
    let within = c.requires.inside.within in
    let number = ap (λ (l : Laid). length l.parts) is ∙ length_exchanged own.layout.parts c.args.exchange in
    let few = ready.task.few_words in
    let rows = c.as_slice.ensures.value in
    let samples = c.as_slice-2.ensures.value in
    let values = c.as_mut_slice.ensures.value in
    let next_values = c.as_mut_slice-2.ensures.value in
    let tables = c.as_mut_slice-3.ensures.value in
    let task = subst (λ (l : Laid). IsSearchTask {W = g.row.W} l.bits own.rows.items own.samples.items) (sym is) ready.task in
    let beside = subst (λ (l : Laid). AreTablesBeside {W = g.row.W} l.bits own.rows.items own.samples.items l.parts c.args.exchange.part own.tables.items)
    (sym is) (beside_exchanged own.layout.bits own.rows.items own.samples.items own.layout.parts c.args.exchange own.tables.items c.requires.inside
    ready.counted) in (
      search rules,
      (
        search rules,
        (
          c.exchange.ensures.laid,
          (
            omega arith,
            (
              rw (rows, samples) task,
              (
                rw (rows, samples, tables) beside,
                (rw tables c.requires.turned, (rw (rows, values) ready.sized, rw (rows, next_values) ready.next_sized)),
              ),
            ),
          ),
        ),
      ),
    )

pub returns-clause-layout : goal.returns-clause-layout
returns-clause-layout g c =
    c.exchange-2.ensures.exchanged ∙ ap (λ (l : Laid). exchanged_in l c.args.exchange) c.exchange.ensures.exchanged
    ∙ ap (λ ps. record { bits = c.args.self.now.layout.bits; parts = ps }) (exchanged_twice c.args.self.now.layout.parts c.args.exchange c.requires.inside)

pub returns-clause-cost : goal.returns-clause-cost
returns-clause-cost g c =
    let after = c.exchange.new.self in
    c.trial_cost-cost.ensures.cost ∙ ap (λ rows. cost_at {W = g.row.W} after.bits rows c.as_slice-2.result.now after.parts) c.as_slice.ensures.value
    ∙ ap (λ samples. cost_at {W = g.row.W} after.bits c.args.self.now.rows.items samples after.parts) c.as_slice-2.ensures.value
    ∙ ap (λ (l : Laid). cost_at {W = g.row.W} l.bits c.args.self.now.rows.items c.args.self.now.samples.items l.parts) c.exchange.ensures.exchanged

pub returns-clause-ready : goal.returns-clause-ready
returns-clause-ready g c =
    let ready = c.requires.ready in
    let own = c.args.self.now in
    let back = returns-clause-layout g c in
    let tables_kept = c.trial_cost-cost.auto.tables in
    let tables_len = c.as_mut_slice-3.ensures.len in
    let values_kept = c.trial_cost-cost.auto.values in
    let values_len = c.as_mut_slice.ensures.len in
    let next_kept = c.trial_cost-cost.auto.next_values in
    let next_len = c.as_mut_slice-2.ensures.len in
    let tables = with_items_is own.tables c.trial_cost-cost.new.tables (tables_kept ∙ tables_len) ∙ c.trial_cost-cost.ensures.same
    ∙ c.as_mut_slice-3.ensures.value in
    let values = with_items_is own.values c.trial_cost-cost.new.values (values_kept ∙ values_len) in
    let next_values = with_items_is own.next_values c.trial_cost-cost.new.next_values (next_kept ∙ next_len) in
    record {
      laid = subst IsLaid (sym back) ready.laid;
      task = subst (λ (l : Laid). IsSearchTask {W = g.row.W} l.bits own.rows.items own.samples.items) (sym back) ready.task;
      counted = rw tables (subst (λ (l : Laid). AreTables {W = g.row.W} l.bits own.rows.items own.samples.items l.parts own.tables.items) (sym back)
          ready.counted);
      sized = ap length values ∙ values_kept ∙ ap length c.as_mut_slice.ensures.value ∙ ready.sized;
      next_sized = ap length next_values ∙ next_kept ∙ ap length c.as_mut_slice-2.ensures.value ∙ ready.next_sized;
    }
