use Rattle.std.proofs.Common.{◌≡◌, ◌%◌, length, arith}
use Rattle.part_layout.proofs.WordRunLemmas.{run_bound, run_fits, value_of_run}
use Rattle.part_layout.proofs.word_runs.run_value.Goals as goal

pub overflow_cast-result : goal.overflow_cast-result
overflow_cast-result g c =
    record { fits = rw c.from-2.ensures (run_fits _ (c.args.first % 64) c.args.width c.requires.in_word c.requires.narrow) }

pub returns-clause-value : goal.returns-clause-value
returns-clause-value g c = λ bits x stands inside.
    let sized : length c.words.result ≡ g.row.W = omega arith in
    rw (c.from.ensures, c.from-2.ensures)
    (value_of_run g.row.W bits c.words.result c.args.code.now x c.args.first c.args.width sized c.words.ensures stands inside c.requires.room
    c.requires.in_word)

pub returns-clause-bound : goal.returns-clause-bound
returns-clause-bound g c = rw c.from-2.ensures (run_bound _ (c.args.first % 64) c.args.width c.requires.in_word)
