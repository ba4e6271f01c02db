use Rattle.std.proofs.Common.{sym, ap, ◌∙◌, arith}
use Rattle.hamming_model.specs.Scan.{in_order}
use Rattle.search_model.specs.Reading.{number_read}
use Rattle.search_model.specs.Keeping.{hits_of_parts}
use Rattle.shard_walk.specs.Planned.{parts_of, planned_query, list_of}
use Rattle.shard_walk.specs.Walks.{hits_left, reads_left, values_left, parts_walked}
use Rattle.shard_walk.proofs.WalkLemmas.{begun_rows, begun_values}
use Rattle.shard_walk.proofs.StartLemmas.{values_few, walked_reading, least_is_cost}
use Rattle.shard_walk.proofs.walk.Walk.start.Goals as goal

pub returns-clause-hits : goal.returns-clause-hits
returns-clause-hits g c =
    let p = c.args.plan.now in
    let plan = c.parts.ensures.plan in
    let lay = plan.version.laid.layout in
    let reading = walked_reading c.flips_make_rings.ensures.balls p.version.contents.layout.bits (planned_query p) plan.query.is_code (list_of p)
    p.version.contents.rows (parts_of p) p.thresholds
    (c.lists_read_by_parts.ensures p.version.contents.layout.bits p.version.contents.rows (parts_of p) p.thresholds (planned_query p) (list_of p)
    plan.version.codes plan.query.is_code plan.choice.vector.size (λ part less. (plan.tables.each part less).lists)) in
    ap (λ w. in_order (hits_left p w)) c.at_part.ensures.part
    ∙ ap (λ rows. in_order (hits_of_parts (parts_of p) p.thresholds (planned_query p) p.tau 0 rows)) (begun_rows p 0 plan.choice.vector.size lay.some_part)
    ∙ c.near_rows_are_kept_once.ensures p.version.contents.layout.bits p.tau p.version.contents.rows (parts_of p) p.thresholds
    (planned_query p) (parts_walked (list_of p) 0 (parts_of p) p.thresholds (planned_query p))
    lay plan.version.codes plan.query.is_code plan.choice.vector reading

pub returns-clause-reads : goal.returns-clause-reads
returns-clause-reads g c =
    let p = c.args.plan.now in
    let plan = c.parts.ensures.plan in
    let lay = plan.version.laid.layout in
    let reading = walked_reading c.flips_make_rings.ensures.balls p.version.contents.layout.bits (planned_query p) plan.query.is_code (list_of p)
    p.version.contents.rows (parts_of p) p.thresholds
    (c.lists_read_by_parts.ensures p.version.contents.layout.bits p.version.contents.rows (parts_of p) p.thresholds (planned_query p) (list_of p)
    plan.version.codes plan.query.is_code plan.choice.vector.size (λ part less. (plan.tables.each part less).lists)) in
    ap (reads_left p) c.at_part.ensures.part
    ∙ ap number_read (begun_rows p 0 plan.choice.vector.size lay.some_part)
    ∙ c.rows_read_are_the_cost.ensures p.version.contents.rows (parts_of p) p.thresholds (planned_query p)
    (parts_walked (list_of p) 0 (parts_of p) p.thresholds (planned_query p)) plan.choice.vector.size reading
    ∙ sym (least_is_cost g.row.W p plan)

pub returns-clause-values : goal.returns-clause-values
returns-clause-values g c =
    let begun = ap (values_left c.args.plan.now) c.at_part.ensures.part
    ∙ begun_values c.args.plan.now 0 c.parts.ensures.plan.choice.vector.size
    c.parts.ensures.plan.version.laid.layout.some_part in
    let few = values_few c.flips_make_rings.ensures.balls c.args.plan.now.version.contents.layout.bits (planned_query c.args.plan.now)
    c.parts.ensures.plan.query.is_code c.ball_sums_add_up.ensures (parts_of c.args.plan.now) c.args.plan.now.thresholds in
    omega (arith, begun)
