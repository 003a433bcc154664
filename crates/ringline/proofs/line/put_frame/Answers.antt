-- The word stands after the number and a space. Assumes nothing.
use native.Mathlib.Omega.{arith}
use Rattle.lent.proofs.Writing.{writes_as, writes_length, writes_more}
use Rattle.records.proofs.Writing.{length-spaced}
use Rattle.ringline.proofs.Writing.{length-frame_line, frame_parts}
use Rattle.ringline.proofs.line.put_frame.Goals as goal

pub put_spaced-requires : goal.put_spaced-requires
put_spaced-requires c = let n = c.args.number in omega (arith, length-spaced n, length-frame_line n, c.requires)

pub bytes-requires : goal.bytes-requires
bytes-requires c =
    let n = c.args.number in
    omega (arith, length-spaced n, length-frame_line n, c.requires, writes_length c.put_spaced.ensures, c.put_spaced.ensures.appended.end)

pub returns : goal.returns
returns c = writes_as (writes_more c.put_spaced.ensures c.bytes.ensures) (frame_parts _)
