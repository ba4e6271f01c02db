use Rattle.std.proofs.Common.{◌≡◌, ◌+◌, map, length, string_bytes, refl}
use Rattle.std.proofs.lemmas.List.{length-map}
use Rattle.command_line.proofs.ListenLemmas.{listen_kept}
use Rattle.command_line.proofs.listening.read_listen.Goals as goal

pub returns-clause-value : goal.returns-clause-value
returns-clause-value c =
    let last : length c.args.options.now + 2 ≡ length (map string_bytes c.args.options.now) + 2 =
    rw (length-map c.args.options.now string_bytes) refl in
    listen_kept (map string_bytes c.args.options.now) (length c.args.options.now + 2) c.in_ok-given.given c.listen.result last
    c.in_ok-given.ensures.value c.listen.ensures.value
