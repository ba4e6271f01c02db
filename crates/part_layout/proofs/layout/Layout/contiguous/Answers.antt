use Rattle.std.proofs.Common.{refl, rules, arith}
use Rattle.part_layout.proofs.RunLemmas.{can_cut, contiguous_laid, cut_holds, cut_narrow, cut_wide, number_ok}
use Rattle.part_layout.proofs.layout.Layout.contiguous.Goals as goal

pub invariant_of-result : goal.invariant_of-result
invariant_of-result c =
    record {
      is_laid =
          record {
            allowed = c.requires;
            layout =
                rw c.in-Ok.ensures
                (contiguous_laid c.args.bits c.args.parts
                (number_ok c.args.bits c.args.parts (omega arith) (omega arith) (omega arith)) (omega arith));
          };
      runs_are = search rules;
    }

pub returns-then-first_width-gt-PART_WIDTH_MOST-clause-memory : goal.returns-then-first_width-gt-PART_WIDTH_MOST-clause-memory
returns-then-first_width-gt-PART_WIDTH_MOST-clause-memory c =
    let wide = cut_wide c.args.bits c.args.parts (omega arith) (omega arith) in
    ((λ same. absurd (let both = same in cc)), (λ can. absurd (let holds = cut_holds c.args.bits c.args.parts can in omega arith)))

pub returns-in_default-clause-memory : goal.returns-in_default-clause-memory
returns-in_default-clause-memory c =
    let narrow = cut_narrow c.args.bits c.args.parts (omega arith) (omega arith) in
    ((λ same. can_cut c.args.bits c.args.parts (omega arith) (omega arith) (omega arith) narrow), (λ can. refl))

pub returns-in_default-runs_of-clause-memory : goal.returns-in_default-runs_of-clause-memory
returns-in_default-runs_of-clause-memory c =
    let narrow = cut_narrow c.args.bits c.args.parts (omega arith) (omega arith) in
    ((λ same. can_cut c.args.bits c.args.parts (omega arith) (omega arith) (omega arith) narrow), (λ can. refl))

pub returns-clause-cut : goal.returns-clause-cut
returns-clause-cut c =
    can_cut c.args.bits c.args.parts (omega arith) (omega arith) (omega arith) (cut_narrow c.args.bits c.args.parts (omega arith) (omega arith))
