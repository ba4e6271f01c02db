use Rattle.std.proofs.Common.{rules}
use Rattle.trace_lines.proofs.reading.read_without_memory.Goals as goal

pub returns-in-Some-PollWord : goal.returns-in-Some-PollWord
returns-in-Some-PollWord g c = search (rules, c.read_poll.ensures c.args.bits)
