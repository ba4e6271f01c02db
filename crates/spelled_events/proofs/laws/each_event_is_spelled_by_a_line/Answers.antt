-- The text of a layout reads back, and has no space.
use Rattle.spelled_events.proofs.SpelledLemmas.{event_read}
use Rattle.spelled_events.proofs.laws.each_event_is_spelled_by_a_line.Goals as goal

pub returns : goal.returns
returns c = event_read c.text_of_layouts.ensures c.bytes_of_layouts.ensures
