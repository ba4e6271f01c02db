use Rattle.std.proofs.Common.{rules, arith}
use Rattle.part_layout.proofs.CursorLemmas.{cut_read, last_read, next_read, position_digits, position_short, word_read}
use Rattle.part_layout.proofs.cursor.next_position.Goals as goal

pub position_of-position-requires : goal.position_of-position-requires
position_of-position-requires c =
    let word = word_read c.args.text.now c.split_at.result.0.now c.split_at.result.1.now
    (cut_read c.args.text.now c.split_at.result.0.now c.split_at.result.1.now c.first_mark.result c.requires (search rules)
    c.first_mark.ensures.within c.first_mark.ensures.word c.first_mark.ensures.stops c.split_at.ensures.front c.split_at.ensures.back) in
    record { short = (position_short c.split_at.result.0.now word).1; digits = position_digits c.split_at.result.0.now word }

pub returns-in-empty-clause-parts : goal.returns-in-empty-clause-parts
returns-in-empty-clause-parts c =
    last_read c.args.text.now c.split_at.result.0.now c.split_at.result.1.now c.position_of-position.result
    (cut_read c.args.text.now c.split_at.result.0.now c.split_at.result.1.now c.first_mark.result c.requires (search rules)
    c.first_mark.ensures.within c.first_mark.ensures.word c.first_mark.ensures.stops c.split_at.ensures.front c.split_at.ensures.back)
    (omega arith) c.position_of-position.ensures.value

pub returns-in-len1-up-clause-parts : goal.returns-in-len1-up-clause-parts
returns-in-len1-up-clause-parts c =
    (next_read c.args.text.now c.split_at.result.0.now c.split_at.result.1.now c.position_of-position.result
    (cut_read c.args.text.now c.split_at.result.0.now c.split_at.result.1.now c.first_mark.result c.requires (search rules)
    c.first_mark.ensures.within c.first_mark.ensures.word c.first_mark.ensures.stops c.split_at.ensures.front c.split_at.ensures.back)
    (omega arith) c.position_of-position.ensures.value).parts

pub returns-in-len1-up-clause-rest : goal.returns-in-len1-up-clause-rest
returns-in-len1-up-clause-rest c =
    (next_read c.args.text.now c.split_at.result.0.now c.split_at.result.1.now c.position_of-position.result
    (cut_read c.args.text.now c.split_at.result.0.now c.split_at.result.1.now c.first_mark.result c.requires (search rules)
    c.first_mark.ensures.within c.first_mark.ensures.word c.first_mark.ensures.stops c.split_at.ensures.front c.split_at.ensures.back)
    (omega arith) c.position_of-position.ensures.value).rest

pub returns-in-len1-up-clause-more : goal.returns-in-len1-up-clause-more
returns-in-len1-up-clause-more c = λ goes.
    (next_read c.args.text.now c.split_at.result.0.now c.split_at.result.1.now c.position_of-position.result
    (cut_read c.args.text.now c.split_at.result.0.now c.split_at.result.1.now c.first_mark.result c.requires (search rules)
    c.first_mark.ensures.within c.first_mark.ensures.word c.first_mark.ensures.stops c.split_at.ensures.front c.split_at.ensures.back)
    (omega arith) c.position_of-position.ensures.value).more
