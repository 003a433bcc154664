-- `sets::list::sets_in` meets its contract. Assumes nothing.
use mathlib.Core.Path.{sym}
use Rattle.sets.proofs.Lists.{sets-length}
use Rattle.sets.proofs.list.sets_in.Goals as goal

pub returns : goal.returns
returns c = sym (sets-length c.args.list.now)
