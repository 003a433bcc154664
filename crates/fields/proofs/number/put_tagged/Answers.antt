-- The tag is written, and the number after it. Assumes nothing.
use Rattle.lent.proofs.Writing.{writes_more}
use Rattle.fields.proofs.number.put_tagged.Goals as goal

pub returns : goal.returns
returns c = writes_more c.byte.ensures c.put_number.ensures
