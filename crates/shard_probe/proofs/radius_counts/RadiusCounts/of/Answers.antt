use Rattle.std.proofs.Common.{◌≡◌, ◌+◌, ◌-◌, ◌*◌, length, take, drop, ap, ◌∙◌, subst, arith}
use Rattle.std.proofs.lemmas.List.{length-take-le, length-drop}
use Rattle.threshold_model.specs.Vectors.{row_counts}
use Rattle.shard_probe.specs.Counted.{HasCounts}
use Rattle.shard_probe.specs.Probed.{parts_in, code_in}
use Rattle.threshold_dp.proofs.RowsLemmas.{row_within}
use Rattle.shard_probe.proofs.RadiusLemmas.{part_written, table_lawful}
use Rattle.shard_probe.proofs.radius_counts.RadiusCounts.of.Goals as goal

pub loop-part-preserved : goal.loop-part-preserved
loop-part-preserved g c =
    let version = c.args.probe.now.version in
    let count = row_counts version.contents.rows (parts_in version) (code_in version c.args.probe.now.stored) in
    let width = c.args.tau + 2 in
    let from = c.loop-part.part * (c.args.tau + 2) in
    let held = c.deref_mut.ensures.value in
    let span : from + width - from ≡ width = omega arith in
    let within = row_within c.loop-part.part c.parts-parts.result (c.args.tau + 2) (omega arith) (omega arith) in
    let table : length c.deref_mut.result.now ≡ c.parts-parts.result * (c.args.tau + 2) = ap length held ∙ c.loop-part.invariant.0 in
    let past : length (drop from c.deref_mut.result.now) ≡ length c.deref_mut.result.now - from =
    length-drop from c.deref_mut.result.now in
    let lent : length (take (from + width - from) (drop from c.deref_mut.result.now)) ≡ from + width - from =
    length-take-le (from + width - from) (drop from c.deref_mut.result.now) (omega (arith, span, past, table, within)) in
    let written : length c.levels.new.out ≡ length (take (from + width - from) (drop from c.deref_mut.result.now)) = c.levels.auto.out in
    let size : length c.levels.new.out ≡ c.args.tau + 2 = written ∙ lent ∙ span in
    part_written c.loop-part.counts c.deref_mut.result.now c.levels.new.out c.args.tau c.loop-part.part c.parts-parts.result (from + width - from)
    held span c.loop-part.invariant.0 (omega arith) size count c.loop-part.invariant.1
    (λ units few. c.levels.ensures units (omega (arith, lent, span)))

pub invariant_of-result : goal.invariant_of-result
invariant_of-result g c =
    let version = c.args.probe.now.version in
    let count = row_counts version.contents.rows (parts_in version) (code_in version c.args.probe.now.stored) in
    let end : c.loop-part.part ≡ c.parts-parts.result = omega arith in
    record {
      lawful = table_lawful c.loop-part.counts.items c.args.tau c.parts-parts.result count c.loop-part.invariant.0
          (subst (λ n. HasCounts c.loop-part.counts.items c.args.tau n count) end c.loop-part.invariant.1)
          (c.counts_of_rows_are_lawful.ensures.starts version.contents.rows (parts_in version) (code_in version c.args.probe.now.stored))
          (c.counts_of_rows_are_lawful.ensures.rises version.contents.rows (parts_in version) (code_in version c.args.probe.now.stored));
    }
