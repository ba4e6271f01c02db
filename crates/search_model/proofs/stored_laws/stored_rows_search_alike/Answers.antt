-- The lemmas on stored codes.
use Rattle.search_model.proofs.StoredLemmas.{stored_taken, stored_rows_taken, stored_value, stored_apart, stored_parts, stored_kept, stored_hit}
use Rattle.search_model.proofs.stored_laws.stored_rows_search_alike.Goals as goal

pub returns : goal.returns
returns c =
    record {
      taken = stored_taken;
      rows = stored_rows_taken;
      values = stored_value;
      apart = stored_apart;
      parts = stored_parts;
      kept = λ words bits tau part layout thresholds row other code query lay stands stands_other.
          stored_kept words bits row other code query stands stands_other tau part layout thresholds lay;
      hits = stored_hit;
    }
