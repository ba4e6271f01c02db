use Rattle.std.proofs.Common.{arith}
use Rattle.part_layout.proofs.cursor.position_of.Goals as goal

pub overflow_cast-result : goal.overflow_cast-result
overflow_cast-result c = let small = c.value_of.ensures.small 3 c.requires.short in omega arith

pub returns : goal.returns
returns c = let small = c.value_of.ensures.small 3 c.requires.short in record { value = c.value_of.ensures.value; small = omega arith }
