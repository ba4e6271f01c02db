use Rattle.command_line.proofs.WordLemmas.{parted_at}
use Rattle.command_line.proofs.command_words.parted.Goals as goal

pub returns-in-Some : goal.returns-in-Some
returns-in-Some c = parted_at c.args.word.now c.in-Some.equals c.in-Some.ensures.value
