-- How a call goes on after a read, and how it ends.
use Rattle.std.proofs.Common.{◌≡◌, ◌≢◌, length, drop, refl, arith, rules}
use Rattle.line_answers.proofs.ReadLemmas.{has_read, length_read, read_fault, limit_reached, serves_none}
use Rattle.line_answers.proofs.ReadLemmas.{done_at_end, refused_at_end, serves_more, refused_in_block}
use Rattle.line_answers.proofs.serve.answer_lines.Goals as goal

pub loop-answers-init : goal.loop-answers-init
loop-answers-init g c =
    (refl, serves_none (g.A.LineAnswers.answered c.args.answers.now) c.args.limit _ _ _ c.requires.none c.requires.begun)

pub returns-in-Err-clause-ending : goal.returns-in-Err-clause-ending
returns-in-Err-clause-ending g c = read_fault c.loop-answers.invariant.1 c.in-Err.ensures.bytes c.in-Err.ensures.cause.failed

pub returns-in-Ok-answer_end-clause-ending : goal.returns-in-Ok-answer_end-clause-ending
returns-in-Ok-answer_end-clause-ending g c =
    let size : length c.read.new.room ≡ c.clamp-room.result = search rules in
    done_at_end c.loop-answers.invariant.1 _ _ _ _ refl refl c.in-Ok-eq0.ensures.steady _ c.read.new.room
    c.in-Ok-eq0.field-0-test c.in-Ok-eq0.ensures.bytes.0
    (c.in-Ok-eq0.ensures.bytes.1 c.in-Ok-eq0.field-0-test (omega (arith, size, c.clamp-room.ensures))) c.answer_end.result
    c.answer_end.ensures.flow c.in-Ok-answer_end.is c.in-Ok-answer_end.ensures.cause

pub returns-in-Err-answer_end-clause-ending : goal.returns-in-Err-answer_end-clause-ending
returns-in-Err-answer_end-clause-ending g c =
    let size : length c.read.new.room ≡ c.clamp-room.result = search rules in
    refused_at_end c.loop-answers.invariant.1 _ _ _ _ refl refl c.in-Ok-eq0.ensures.steady _ c.read.new.room
    c.in-Ok-eq0.field-0-test c.in-Ok-eq0.ensures.bytes.0
    (c.in-Ok-eq0.ensures.bytes.1 c.in-Ok-eq0.field-0-test (omega (arith, size, c.clamp-room.ensures))) c.answer_end.result
    c.answer_end.ensures.flow c.in-Err-answer_end.is c.in-Err-answer_end.ensures.cause.1

pub returns-then-taken-limit-clause-ending : goal.returns-then-taken-limit-clause-ending
returns-then-taken-limit-clause-ending g c =
    let room_is : length c.read.new.room ≡ c.clamp-room.result = search rules in
    let some : c.in-Ok.count ≢ 0 = c.in-Ok.count-test.1 in
    limit_reached c.loop-answers.invariant.1 c.in-Ok.count c.read.new.room
    (omega (arith, room_is, c.clamp-room.ensures, c.in-Ok.ensures.bound.0, c.if-taken-limit.true, some))
    (omega (arith, room_is, c.clamp-room.ensures)) c.in-Ok.ensures.bytes.0 c.in-Ok.ensures.steady c.if-taken-limit.true

pub loop-answers-preserved : goal.loop-answers-preserved
loop-answers-preserved g c =
    let serves = c.loop-answers.invariant.1 in
    let rest = drop c.clamp-room.result c.loop-answers.block in
    let read = has_read c.in-Ok.count c.clamp-room.result c.read.new.room rest (search rules) c.in-Ok.ensures.bound.0
    (omega (arith, c.clamp-room.ensures)) (omega (arith, c.clamp-room.ensures, serves.few)) c.in-Ok.ensures.bytes.0 in (
      search rules,
      serves_more serves _ _ _ _ refl refl c.in-Ok.ensures.steady read c.answer_block.result c.answer_block.ensures.flow c.in-Ok.count
          (length_read c.in-Ok.count c.read.new.room rest c.in-Ok.ensures.bound.0) (search rules) (search rules),
    )

pub returns-in-Err-answer_block-clause-ending : goal.returns-in-Err-answer_block-clause-ending
returns-in-Err-answer_block-clause-ending g c = refused_in_block c.loop-answers.invariant.1 _ _ _ _ refl refl c.in-Ok.ensures.steady
    (has_read c.in-Ok.count c.clamp-room.result c.read.new.room (drop c.clamp-room.result c.loop-answers.block) (search rules)
    c.in-Ok.ensures.bound.0 (omega (arith, c.clamp-room.ensures)) (omega (arith, c.clamp-room.ensures, c.loop-answers.invariant.1.few))
    c.in-Ok.ensures.bytes.0) c.answer_block.result c.answer_block.ensures.flow c.in-Err-answer_block.is c.in-Err-answer_block.ensures.cause.1
