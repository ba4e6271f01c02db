-- The lemmas on stored rows.
use Rattle.hamming_model.proofs.RowLemmas.{scan_of_stored_codes, code_at_stored, insert_stored}
use Rattle.hamming_model.proofs.row_laws.stored_rows_scan_alike.Goals as goal

pub returns : goal.returns
returns c = record { scans = scan_of_stored_codes; codes = code_at_stored; inserted = insert_stored }
