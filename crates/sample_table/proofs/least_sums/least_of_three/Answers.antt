use Rattle.std.proofs.Common.{List, ℕ, length, ◌-◌, ◌∙◌, subst, arith}
use Rattle.sample_table.specs.Sums.{AreLeastJoint, IsLeastJoint}
use Rattle.sample_table.proofs.SumLemmas.{three_least}
use Rattle.sample_table.proofs.least_sums.least_of_three.Goals as goal

pub returns-clause-least : goal.returns-clause-least
returns-clause-least c =
    let after = c.copy_from_slice.ensures.after in
    let size = c.copy_from_slice.auto.self in
    let added = c.add_row.auto.sums in
    let joint = subst (λ n. AreLeastJoint n c.args.next.now c.copy_from_slice.new.self c.add_row.new.sums) size c.add_row.ensures.joint in
    three_least c.args.first.now c.args.next.now c.args.others.now c.add_row.new.sums (length c.args.sums.now) (length c.args.sums.now - 1)
    c.least_joint.result (omega arith) (subst (λ (xs : List ℕ). AreLeastJoint (length c.args.sums.now) c.args.next.now xs c.add_row.new.sums) after joint)
    (subst (λ n. IsLeastJoint c.args.first.now c.add_row.new.sums (n - 1) c.least_joint.result) (added ∙ size) c.least_joint.ensures.least)
