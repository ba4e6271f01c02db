use Rattle.std.proofs.Common.{rules, List, ℕ, ap, sym, ◌∙◌, arith, subst}
use Rattle.exchange_model.specs.Rounds.{Reached, improved}
use Rattle.part_layout.specs.Laid.{IsLaid, Laid}
use Rattle.layout_search.specs.Arranged.{reached_in}
use Rattle.layout_search.specs.Inside.{IsSearchTask}
use Rattle.layout_search.proofs.ImproveLemmas.{cost_same, cost_still, task_of, version_cost}
use Rattle.layout_search.proofs.improving.improve.Goals as goal

pub new-requires : goal.new-requires
new-requires g c =
    let few = c.requires.few_words in
    let is = c.in_ok-arrangement.ensures ∙ c.deref.ensures ∙ c.layout.ensures.layout in
    let task = task_of c.args.version.now.contents c.in_ok-rows.rows.items c.args.samples.now c.requires.few_words c.layout.ensures.tables.room
    c.in_ok-rows.ensures.rows c.in_ok-rows.ensures.codes c.requires.samples in (
      search rules,
      (
        search rules,
        (
          omega arith,
          (
            subst IsLaid (sym is) c.layout.ensures.version.laid,
            subst (λ (l : Laid). IsSearchTask {W = g.row.W} l.bits c.in_ok-rows.rows.items c.args.samples.now) (sym is) task,
          ),
        ),
      ),
    )

pub returns-clause-found : goal.returns-clause-found
returns-clause-found g c =
    let version = c.args.version.now.contents in
    let cost = version_cost version c.args.samples.now in
    let end = improved cost c.args.rounds version.layout.parts in
    let start = c.in_ok-search.ensures.layout ∙ c.in_ok-arrangement.ensures ∙ c.deref.ensures ∙ c.layout.ensures.layout in
    let first = cost_same version c.in_ok-rows.rows.items c.args.samples.now c.in_ok-search.search start c.in_ok-search.ensures.rows
    c.in_ok-search.ensures.samples
    c.in_ok-rows.ensures.rows in
    let one = cost_still c.in_ok-search.search c.cost-before.new.self c.cost-before.ensures.task ∙ first in
    let two = cost_still c.cost-before.new.self c.improve-swaps.new.self c.improve-swaps.ensures.task ∙ one in
    let at_start = c.cost-before.ensures.layout ∙ start in
    let same_end = ap (λ (of : List (List ℕ) → ℕ). improved of c.args.rounds c.cost-before.new.self.layout.parts) one
    ∙ ap (λ (l : Laid). improved cost c.args.rounds l.parts) at_start in
    let reached = c.improve-swaps.ensures.layout ∙ ap (reached_in c.cost-before.new.self.layout) same_end ∙ ap (λ (l : Laid). reached_in l end) at_start in
    let still = c.in-Ok.ensures.ok ∙ c.in_ok-found.ensures ∙ c.cost-after.ensures.layout in
    let value = still ∙ reached in
    let before = c.cost-before.ensures.cost ∙ ap (λ (of : List (List ℕ) → ℕ). of c.in_ok-search.search.layout.parts) first
    ∙ ap (λ (l : Laid). cost l.parts) start in
    let after = c.cost-after.ensures.cost ∙ ap (λ (of : List (List ℕ) → ℕ). of c.improve-swaps.new.self.layout.parts) two
    ∙ ap (λ (l : Laid). cost l.parts) reached in
    record {
      layout = ap (λ (l : Laid). l.parts) value;
      number = c.improve-swaps.ensures.swaps ∙ ap (λ (r : Reached). r.swaps) same_end;
      cost_before = before;
      cost_after = after ∙ ap (λ (l : Laid). cost l.parts) (sym value);
    }

pub returns-clause-laid : goal.returns-clause-laid
returns-clause-laid g c = subst IsLaid (sym (c.in-Ok.ensures.ok ∙ c.in_ok-found.ensures ∙ c.cost-after.ensures.layout)) c.improve-swaps.ensures.ready.laid

pub returns-clause-bits : goal.returns-clause-bits
returns-clause-bits g c =
    ap (λ (l : Laid). l.bits) (c.in-Ok.ensures.ok ∙ c.in_ok-found.ensures ∙ c.cost-after.ensures.layout)
    ∙ c.improve-swaps.ensures.task.bits ∙ c.cost-before.ensures.task.bits
    ∙ ap (λ (l : Laid). l.bits) (c.in_ok-search.ensures.layout ∙ c.in_ok-arrangement.ensures ∙ c.deref.ensures ∙ c.layout.ensures.layout)

pub returns-clause-never_dearer : goal.returns-clause-never_dearer
returns-clause-never_dearer g c =
    let cost = version_cost c.args.version.now.contents c.args.samples.now in
    let found = returns-clause-found g c in
    let before = found.cost_before in
    let after = found.cost_after ∙ ap cost found.layout in
    let cheaper = c.rounds_never_cost_more.ensures.cheaper cost c.args.rounds c.args.version.now.contents.layout.parts in
    omega (arith, cheaper, before, after)
