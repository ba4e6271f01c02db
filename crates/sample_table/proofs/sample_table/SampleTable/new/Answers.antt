use Rattle.std.proofs.Common.{◌+◌, ◌∙◌, length, ap, sym, subst}
use Rattle.sample_table.specs.Sums.{AreCountRows, IsCountRow}
use Rattle.sample_table.proofs.CountLemmas.{zero_row, zero_rows}
use Rattle.sample_table.proofs.sample_table.SampleTable.new.Goals as goal

pub invariant_of-result : goal.invariant_of-result
invariant_of-result c =
    let width = c.args.tau + 2 in
    let zeros = zero_row width in
    record {
      near = c.requires;
      counted = subst (AreCountRows width) (sym c.loop-part.invariant) (zero_rows c.loop-part._part width);
      beside = subst (IsCountRow width) (sym c.in_ok-others.ensures) zeros;
      first_fits = ap length c.in_ok-first.ensures ∙ zeros.size;
      next_fits = ap length c.in_ok-next.ensures ∙ zeros.size;
      sums_fit = ap length c.in_ok-sums.ensures ∙ zeros.size;
    }
