-- The last bytes of all eight are those of the number. Assumes nothing.
use Rattle.lent.proofs.Writing.{writes_as}
use Rattle.fields.proofs.Bytes.{high-first_last}
use Rattle.fields.proofs.number.put_number.Goals as goal

pub returns : goal.returns
returns c = writes_as c.bytes.ensures (high-first_last _ _ c.requires.0 c.to_be_bytes-bytes.ensures)
