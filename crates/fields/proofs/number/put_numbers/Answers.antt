-- Of the numbers' bytes, those of the first ones are written. Assumes nothing.
use native.Mathlib.Omega.{arith}
use lib.ListN.{get_or}
use Rattle.lent.proofs.Writing.{strings_none, strings_room, strings_more, strings_all}
use Rattle.fields.proofs.Bytes.{length-bytes_of, bytes_of_all-gather}
use Rattle.fields.proofs.number.put_numbers.Goals as goal

pub loop-number-init : goal.loop-number-init
loop-number-init c = strings_none _ _ (omega (arith, c.requires.1))

pub put_number-requires : goal.put_number-requires
put_number-requires c = let i = c.loop-number.number-index in
    let a = c.args in
    (c.requires.0, omega (arith, strings_room _ c.loop-number.invariant c.loop-number-test.true (bytes_of_all-gather a.width a.numbers.now) c.requires.1, length-bytes_of a.width (get_or a.numbers.now i 0)))

pub loop-number-preserved : goal.loop-number-preserved
loop-number-preserved c = strings_more _ c.loop-number.invariant c.put_number.ensures

pub returns : goal.returns
returns c = strings_all _ c.loop-number.invariant (omega arith) (bytes_of_all-gather _ _)
