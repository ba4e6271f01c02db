-- The lemmas on postings, part by part.
use Rattle.std.proofs.Common.{◌≡◌, [], get_or, subst, arith}
use Rattle.search_model.specs.Reading.{AreLists}
use Rattle.search_model.proofs.PostingLemmas.{parts_read_size, parts_read_each}
use Rattle.search_model.proofs.reading_laws.lists_read_by_parts.Goals as goal

pub returns : goal.returns
returns c = λ bits rows layout thresholds query lists codes is_query size each.
    record {
      size = parts_read_size lists 0 layout thresholds query size;
      each = parts_read_each bits rows query lists codes is_query 0 layout thresholds size
          (λ part place at less. let same : part ≡ place = omega arith in subst (λ n. AreLists rows (get_or layout part []) (lists n)) same (each part less));
    }
