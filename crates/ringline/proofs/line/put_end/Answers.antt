-- The word, the number and the line's end stand one after the other. Assumes nothing.
use native.Mathlib.Omega.{arith}
use Rattle.definitions.specs.Ringline.{end_line}
use Rattle.lent.proofs.Writing.{writes_length, writes_more}
use Rattle.ringline.proofs.Writing.{length-end_line}
use Rattle.ringline.proofs.line.put_end.Goals as goal

pub bytes-requires : goal.bytes-requires
bytes-requires c = omega (arith, length-end_line c.args.records, c.requires)

pub put_decimal-requires : goal.put_decimal-requires
put_decimal-requires c = omega (arith, length-end_line c.args.records, c.requires, writes_length c.bytes.ensures, c.bytes.ensures.appended.end)

pub byte-requires : goal.byte-requires
byte-requires c =
    let so_far = writes_more c.bytes.ensures c.put_decimal.ensures in
    omega (arith, length-end_line c.args.records, c.requires, writes_length so_far, so_far.appended.end)

pub returns : goal.returns
unfolding end_line
returns c = writes_more c.bytes.ensures (writes_more c.put_decimal.ensures c.byte.ensures)
