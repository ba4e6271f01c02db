-- The lemmas on scans.
use Rattle.hamming_model.proofs.ScanLemmas.{scan_counted, scan_sorted}
use Rattle.hamming_model.proofs.scan_laws.scan_lists_the_near_rows.Goals as goal

pub returns : goal.returns
returns c = record { each = scan_counted; ascends = scan_sorted }
