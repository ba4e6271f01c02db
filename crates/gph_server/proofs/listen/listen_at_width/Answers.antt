-- The first desk is of the board and its Config, and has no front.
use Rattle.std.proofs.Common.{rules, ap, ◌∙◌}
use Rattle.shared_board.specs.Shared.{SharedState}
use Rattle.gph_server.proofs.listen.listen_at_width.Goals as goal

pub first-desk-requires : goal.first-desk-requires
first-desk-requires g c = (search rules, (search rules, (search rules, c.in-Ok.ensures.first)))

pub serve_side_by_side-desk-requires-after_bounds : goal.serve_side_by_side-desk-requires-after_bounds
serve_side_by_side-desk-requires-after_bounds g c κs within = (
  search rules,
  (
    c.requires.sync,
    (
      ap (λ (d : SharedState). d.config) c.first-desk.ensures ∙ c.in-Ok.ensures.config,
      ap (λ (d : SharedState). d.fronts) c.first-desk.ensures,
    ),
  ),
)

pub stand-standing-requires : goal.stand-standing-requires
stand-standing-requires g c = (search rules, (search rules, c.serve_side_by_side-desk.ensures.fronts))
