-- `sets::list::read` meets its contract. Assumes nothing.
use native.Mathlib.Omega.{arith}
use Rattle.sets.proofs.Lists.{sets-length}
use Rattle.sets.proofs.OneWord.{one_read}
use Rattle.sets.proofs.list.read.Goals as goal

pub offset_bounds-list-i : goal.offset_bounds-list-i
offset_bounds-list-i c = omega (arith, sets-length c.args.list.now)

pub bounds-list-i : goal.bounds-list-i
bounds-list-i c = omega (arith, sets-length c.args.list.now)

pub returns : goal.returns
returns c = one_read c.args.list.now c.args.i c.requires
