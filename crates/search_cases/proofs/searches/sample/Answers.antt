-- The words keep the code that the digits spell.
use Rattle.std.proofs.Common.{rules, subst, sym}
use Rattle.hamming_model.specs.Codes.{StandsFor, hex_code}
use Rattle.search_cases.proofs.searches.sample.Goals as goal

pub returns : goal.returns
returns g c =
    let code = hex_code c.as_bytes.result.now in
    record {
      query = subst (StandsFor 1 8 c.in-Ok.query) (sym (c.stored_rows_search_alike.ensures.taken 1 8 c.in-Ok.query code c.in-Ok.ensures.code))
          c.in-Ok.ensures.code;
      near = search rules;
    }
