-- How a session goes on after a read, and how it ends.
use Rattle.std.proofs.Common.{◌≡◌, ◌≢◌, length, drop, arith, rules}
use Rattle.gph_session.proofs.ServeLemmas.{has_read, length_read, read_fault, limit_reached}
use Rattle.gph_session.proofs.ServeLemmas.{done_at_end, refused_at_end, serves_more, done_by_quit, refused_in_block}
use Rattle.gph_session.proofs.serve.serve.Goals as goal

pub returns-in-Err : goal.returns-in-Err
returns-in-Err g c = read_fault c.loop-session.invariant.serves c.in-Err.ensures.bytes c.in-Err.ensures.cause.failed

pub returns-in-Ok-answer_end : goal.returns-in-Ok-answer_end
returns-in-Ok-answer_end g c =
    let size : length c.read.new.room ≡ c.clamp-room.result = search rules in
    done_at_end c.loop-session.invariant.serves _ _ _ c.in-Ok-eq0.ensures.steady _ c.read.new.room
    c.in-Ok-eq0.field-0-test c.in-Ok-eq0.ensures.bytes.0
    (c.in-Ok-eq0.ensures.bytes.1 c.in-Ok-eq0.field-0-test (omega (arith, size, c.clamp-room.ensures))) c.answer_end.result
    c.answer_end.ensures.flow c.in-Ok-answer_end.is c.in-Ok-answer_end.ensures.cause

pub returns-in-Err-answer_end : goal.returns-in-Err-answer_end
returns-in-Err-answer_end g c =
    let size : length c.read.new.room ≡ c.clamp-room.result = search rules in
    refused_at_end c.loop-session.invariant.serves _ _ _ c.in-Ok-eq0.ensures.steady _ c.read.new.room
    c.in-Ok-eq0.field-0-test c.in-Ok-eq0.ensures.bytes.0
    (c.in-Ok-eq0.ensures.bytes.1 c.in-Ok-eq0.field-0-test (omega (arith, size, c.clamp-room.ensures))) c.answer_end.result
    c.answer_end.ensures.flow c.in-Err-answer_end.is c.in-Err-answer_end.ensures.cause.1

pub returns-then-taken-limit : goal.returns-then-taken-limit
returns-then-taken-limit g c =
    let room_is : length c.read.new.room ≡ c.clamp-room.result = search rules in
    let some : c.in-Ok.count ≢ 0 = c.in-Ok.count-test.1 in
    limit_reached c.loop-session.invariant.serves c.in-Ok.count c.read.new.room
    (omega (arith, room_is, c.clamp-room.ensures, c.in-Ok.ensures.bound.0, c.if-taken-limit.true, some))
    (omega (arith, room_is, c.clamp-room.ensures)) c.in-Ok.ensures.bytes.0 c.in-Ok.ensures.steady c.if-taken-limit.true

pub loop-session-preserved : goal.loop-session-preserved
loop-session-preserved g c =
    let serves = c.loop-session.invariant.serves in
    let rest = drop c.clamp-room.result c.loop-session.block in
    let read = has_read c.in-Ok.count c.clamp-room.result c.read.new.room rest (search rules) c.in-Ok.ensures.bound.0
    (omega (arith, c.clamp-room.ensures)) (omega (arith, c.clamp-room.ensures, serves.few)) c.in-Ok.ensures.bytes.0 in
    record {
      config = c.answer_block.ensures.config;
      shards = c.answer_block.ensures.shards;
      samples = c.answer_block.ensures.samples;
      build = c.answer_block.ensures.build;
      serves = serves_more serves _ _ _ c.in-Ok.ensures.steady read _ c.answer_block.result c.answer_block.ensures.flow c.in-Ok.count
          (length_read c.in-Ok.count c.read.new.room rest c.in-Ok.ensures.bound.0) (search rules) (search rules);
    }

pub returns-in-Ok-Quits : goal.returns-in-Ok-Quits
returns-in-Ok-Quits g c = done_by_quit c.loop-session.invariant.serves _ _ _ c.in-Ok.ensures.steady
    (has_read c.in-Ok.count c.clamp-room.result c.read.new.room (drop c.clamp-room.result c.loop-session.block) (search rules)
    c.in-Ok.ensures.bound.0 (omega (arith, c.clamp-room.ensures)) (omega (arith, c.clamp-room.ensures, c.loop-session.invariant.serves.few))
    c.in-Ok.ensures.bytes.0) _ c.answer_block.result c.answer_block.ensures.flow (search rules) (search rules)

pub returns-in-Err-answer_block : goal.returns-in-Err-answer_block
returns-in-Err-answer_block g c = refused_in_block c.loop-session.invariant.serves _ _ _ c.in-Ok.ensures.steady
    (has_read c.in-Ok.count c.clamp-room.result c.read.new.room (drop c.clamp-room.result c.loop-session.block) (search rules)
    c.in-Ok.ensures.bound.0 (omega (arith, c.clamp-room.ensures)) (omega (arith, c.clamp-room.ensures, c.loop-session.invariant.serves.few))
    c.in-Ok.ensures.bytes.0) _ c.answer_block.result c.answer_block.ensures.flow c.in-Err-answer_block.is c.in-Err-answer_block.ensures.cause.1
