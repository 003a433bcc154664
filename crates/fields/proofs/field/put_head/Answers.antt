-- A head is a tag and a number after it. Assumes nothing.
use Rattle.fields.proofs.field.put_head.Goals as goal

pub returns : goal.returns
returns c = c.put_tagged.ensures
