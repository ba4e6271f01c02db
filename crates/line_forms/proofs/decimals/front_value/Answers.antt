use Rattle.std.proofs.Common.{◌+◌, get_or, arith}
use Rattle.std.proofs.lemmas.Int.Digits.{digits_value_more}
use Rattle.std.proofs.lemmas.Str.{digit_value_digit}
use Rattle.std.proofs.lemmas.Str.Parse.{digit_at}
use Rattle.line_forms.proofs.FormLemmas.{value_small}
use Rattle.line_forms.proofs.decimals.front_value.Goals as goal

pub overflow_mul-value : goal.overflow_mul-value
overflow_mul-value c =
    let small = value_small c.args.word.now (c.loop-digit.digit-index + 1) 19 c.requires.short c.requires.digits in
    omega (arith, digits_value_more 10 c.args.word.now c.loop-digit.digit-index (omega arith))

pub overflow_sub-digit : goal.overflow_sub-digit
overflow_sub-digit c =
    let range = digit_at c.args.word.now c.loop-digit.digit-index c.requires.digits (omega arith) in omega arith

pub overflow_add-value : goal.overflow_add-value
overflow_add-value c =
    let range = digit_at c.args.word.now c.loop-digit.digit-index c.requires.digits (omega arith) in
    let digit = digit_value_digit (get_or c.args.word.now c.loop-digit.digit-index 0) range in
    let small = value_small c.args.word.now (c.loop-digit.digit-index + 1) 19 c.requires.short c.requires.digits in
    let more = digits_value_more 10 c.args.word.now c.loop-digit.digit-index (omega arith) in
    omega arith

pub loop-digit-preserved : goal.loop-digit-preserved
loop-digit-preserved c =
    let range = digit_at c.args.word.now c.loop-digit.digit-index c.requires.digits (omega arith) in
    let digit = digit_value_digit (get_or c.args.word.now c.loop-digit.digit-index 0) range in
    let more = digits_value_more 10 c.args.word.now c.loop-digit.digit-index (omega arith) in
    omega arith

pub returns-clause-small : goal.returns-clause-small
returns-clause-small c =
    let small = value_small c.args.word.now c.loop-digit.digit-index 19 c.requires.short c.requires.digits in omega arith
