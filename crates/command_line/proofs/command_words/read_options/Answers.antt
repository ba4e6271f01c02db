use Rattle.std.proofs.Common.{◌≡◌, ◌+◌, map, length, string_bytes, refl}
use Rattle.std.proofs.lemmas.Result.{err_from_is_err_and}
use Rattle.std.proofs.lemmas.List.{length-map}
use Rattle.command_line.proofs.ListenLemmas.{command_kept, command_fault}
use Rattle.command_line.proofs.command_words.read_options.Goals as goal

pub returns-in_err-given-clause-value : goal.returns-in_err-given-clause-value
returns-in_err-given-clause-value c =
    let p = err_from_is_err_and c.from_residual.result c.from_residual.ensures.1 in
    rw (p.1, p.2) (command_fault c.args.command (map string_bytes c.args.options.now) _ c.in_err-given.ensures.value)

pub returns-clause-value : goal.returns-clause-value
returns-clause-value c =
    let last : length c.args.options.now + 2 ≡ length (map string_bytes c.args.options.now) + 2 =
    rw (length-map c.args.options.now string_bytes) refl in
    command_kept c.args.command (map string_bytes c.args.options.now) (length c.args.options.now + 2) c.in_ok-given.given c.command.result last
    c.in_ok-given.ensures.value c.command.ensures.value
