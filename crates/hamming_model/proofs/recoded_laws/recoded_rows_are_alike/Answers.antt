-- The lemmas on recoded rows.
use Rattle.hamming_model.proofs.RecodedLemmas.{changed_recoded, code_recoded, fits_recoded, shard_recoded}
use Rattle.hamming_model.proofs.recoded_laws.recoded_rows_are_alike.Goals as goal

pub returns : goal.returns
returns c = record { codes = code_recoded; changes = changed_recoded; shards = shard_recoded; fits = fits_recoded }
