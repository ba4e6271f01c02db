-- The words keep the code that the digits spell.
use Rattle.std.proofs.Common.{subst, sym}
use Rattle.hamming_model.specs.Codes.{StandsFor, hex_code}
use Rattle.board_cases.proofs.boards.spelled.Goals as goal

pub returns : goal.returns
returns g c =
    let kept = c.stored_rows_search_alike.ensures.taken in
    let digits = hex_code c.args.text.now in
    subst (StandsFor 1 8 c.in-Ok.code) (sym (kept 1 8 c.in-Ok.code digits c.in-Ok.ensures.code))
    c.in-Ok.ensures.code
