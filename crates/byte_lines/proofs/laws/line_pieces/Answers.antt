-- The lines are what stands between the LFs.
use Rattle.std.proofs.Common.{◌≢◌, []}
use Rattle.std.proofs.lemmas.List.Elements.{All-nil}
use Rattle.byte_lines.proofs.LinesLemmas.{can_split, lines_of_split}
use Rattle.byte_lines.specs.Lines.{line_feed}
use Rattle.byte_lines.proofs.laws.line_pieces.Goals as goal

pub returns-clause-split : goal.returns-clause-split
returns-clause-split c = λ bytes. can_split [] bytes (All-nil (λ b. b ≢ line_feed))

pub returns-clause-only : goal.returns-clause-only
returns-clause-only c = lines_of_split
