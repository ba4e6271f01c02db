use Rattle.std.proofs.Common.{◌<◌, length, arith}
use Rattle.std.proofs.lemmas.Bool.Decides.{nat_tests}
use Rattle.line_forms.proofs.WordLemmas.{first_word}
use Rattle.line_forms.proofs.words.next_word.Goals as goal

pub returns : goal.returns
returns c =
    let some : 0 < length c.without_spaces-begun.result.now = grind (arith, nat_tests, c.is_empty.ensures, c.if-is_empty.false) in
    let found =
    first_word c.without_spaces-begun.result.now c.word_end.result c.without_spaces-begun.ensures.begun some
    c.word_end.ensures.stops c.word_end.ensures.splits in
    cc
