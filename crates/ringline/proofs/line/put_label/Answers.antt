-- The two cases of what is told. Assumes nothing.
use Rattle.lent.proofs.Writing.{writes_more}
use Rattle.ringline.proofs.line.put_label.Goals as goal

pub returns-in-Ok : goal.returns-in-Ok
returns-in-Ok c = rw c.in-Ok.is (writes_more c.bytes.ensures c.put_hex.ensures)

pub returns-in-Err : goal.returns-in-Err
returns-in-Err c = rw (c.in-Err.is, ← c.number.ensures) (writes_more c.put_spaced.ensures c.byte.ensures)
