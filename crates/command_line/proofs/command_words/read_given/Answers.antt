use Rattle.std.proofs.Common.{ℕ, ◌+◌, ◌∷◌, length, List, map, string_bytes, option_copied, sym, ap, arith}
use Rattle.std.proofs.lemmas.Result.{err_from_is_err_and}
use Rattle.command_line.specs.WrittenOptions.{in_one_word, in_two_words}
use Rattle.command_line.specs.ReadWords.{settings_kept}
use Rattle.command_line.proofs.GivenLemmas.{after_one, after_two, fault_one, fault_two, are_entries}
use Rattle.command_line.proofs.command_words.read_given.Goals as goal

pub loop-word-preserved-in-Some : goal.loop-word-preserved-in-Some
loop-word-preserved-in-Some c =
    let held = c.loop-word.invariant in
    let first = rw c.in-Some-default.is-0 at c.next_word.ensures.next in
    let parts : List ℕ × List ℕ = (c.in-Some.name.now, c.in-Some.value.now) in
    let step = after_one c.args.command held.0 c.in_ok-given.given c.loop-word.place
    c.in-Some-default.word.now (map string_bytes c.loop-word.rest.now)
    (map string_bytes c.next_word.result.1.now) parts _ first c.next_word.ensures.after
    (sym c.in-Some.ensures) (c.in_ok-given.ensures.value held.0 held.1) held.2 in
    (in_one_word c.loop-word.place parts ∷ held.0, step.0, step.1, omega (arith, held.3, c.in_ok-given.ensures.more), c.in_ok-given.ensures.few)

pub loop-word-preserved : goal.loop-word-preserved
loop-word-preserved c =
    let held = c.loop-word.invariant in
    let first = rw c.in-Some-default.is-0 at c.next_word.ensures.next in
    let none = rw c.in_default-parted.is at c.parted.ensures in
    let value = option_copied c.next_word-in-Some-default.result.0 in
    let step = after_two c.args.command held.0 c.in_ok-given-2.given c.loop-word.place
    c.in-Some-default.word.now (map string_bytes c.loop-word.rest.now)
    (map string_bytes c.next_word.result.1.now) (map string_bytes c.next_word-in-Some-default.result.1.now) value _ first c.next_word.ensures.after
    c.next_word-in-Some-default.ensures.next c.next_word-in-Some-default.ensures.after (sym none) (c.in_ok-given-2.ensures.value held.0 held.1) held.2 in (
      in_two_words c.loop-word.place c.in-Some-default.word.now value ∷ held.0,
      step.0,
      step.1,
      omega (arith, held.3, c.in_ok-given-2.ensures.more),
      c.in_ok-given-2.ensures.few,
    )

pub returns-in_err-given-clause-value : goal.returns-in_err-given-clause-value
returns-in_err-given-clause-value c =
    let held = c.loop-word.invariant in
    let first = rw c.in-Some-default.is-0 at c.next_word.ensures.next in
    let parts : List ℕ × List ℕ = (c.in-Some.name.now, c.in-Some.value.now) in
    let p = err_from_is_err_and c.from_residual.result c.from_residual.ensures.1 in
    rw (p.1, p.2) (ap settings_kept (fault_one c.args.command held.0 _ c.loop-word.place c.in-Some-default.word.now
    (map string_bytes c.loop-word.rest.now) parts _ first
    (sym c.in-Some.ensures) (c.in_err-given.ensures.value held.0 held.1) held.2))

pub returns-in_err-given-2-clause-value : goal.returns-in_err-given-2-clause-value
returns-in_err-given-2-clause-value c =
    let held = c.loop-word.invariant in
    let first = rw c.in-Some-default.is-0 at c.next_word.ensures.next in
    let none = rw c.in_default-parted.is at c.parted.ensures in
    let value = option_copied c.next_word-in-Some-default.result.0 in
    let p = err_from_is_err_and c.from_residual-in_err-given-2.result c.from_residual-in_err-given-2.ensures.1 in
    rw (p.1, p.2) (ap settings_kept (fault_two c.args.command held.0 _ c.loop-word.place c.in-Some-default.word.now
    (map string_bytes c.loop-word.rest.now)
    (map string_bytes c.next_word.result.1.now) value _ first c.next_word.ensures.after
    c.next_word-in-Some-default.ensures.next (sym none) (c.in_err-given-2.ensures.value held.0 held.1) held.2))

pub returns-clause-entries : goal.returns-clause-entries
returns-clause-entries c = are_entries c.loop-word.invariant.0 c.loop-word.given c.loop-word.invariant.1
