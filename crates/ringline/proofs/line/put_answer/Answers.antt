-- The number, what is told of the label and the line's end stand one after the other. Assumes nothing.
use Rattle.lent.proofs.Writing.{writes_more}
use Rattle.ringline.proofs.line.put_answer.Goals as goal

pub returns : goal.returns
returns c = writes_more c.put_spaced.ensures (writes_more c.put_label.ensures c.byte.ensures)
