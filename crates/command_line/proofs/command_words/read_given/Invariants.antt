use Rattle.std.proofs.Common.{◌≡◌, ◌+◌, ◌*◌, ◌≤◌, List, length, map, string_bytes}
use Rattle.command_line.specs.ListenWords.{settings_after, settings_asked}
use Rattle.command_line.specs.WrittenOptions.{Written, written_options}
use Rattle.command_line.specs.Kept.{options_kept, size}
use Rattle.command_line.proofs.command_words.read_given.Given as goal

abbrev pub invariant-loop-word : goal.invariant-loop-word
invariant-loop-word l =
    (before : List Written) × (l.given ≡ options_kept before)
    × (settings_after l.command before (written_options l.place (map string_bytes l.rest))
    ≡ settings_asked l.command (map string_bytes l.options))
    × (l.place ≤ 2 + 2 * size l.given) × (size l.given ≤ 10)

abbrev pub decreases-loop-word : goal.decreases-loop-word
decreases-loop-word l = length l.rest
