-- The space stands after the number. Assumes nothing.
use native.Mathlib.Omega.{arith}
use Rattle.lent.proofs.Writing.{writes_room, writes_more}
use Rattle.records.specs.Spaced.{spaced}
use Rattle.records.proofs.Writing.{length-spaced}
use Rattle.records.proofs.text.put_spaced.Goals as goal

pub put_decimal-requires : goal.put_decimal-requires
put_decimal-requires c = omega (arith, length-spaced c.args.number, c.requires)

pub byte-requires : goal.byte-requires
unfolding spaced
byte-requires c = omega (arith, writes_room c.put_decimal.ensures _ c.requires)

pub returns : goal.returns
unfolding spaced
returns c = writes_more c.put_decimal.ensures c.byte.ensures
