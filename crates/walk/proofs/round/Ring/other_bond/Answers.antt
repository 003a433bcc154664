-- The bonds of the ring at the atom are those that the row shares with it. Assumes nothing.
use Rattle.walk.proofs.Stepping.{other_none, other_some}
use Rattle.walk.proofs.round.Ring.other_bond.Goals as goal

pub returns-then-size-ne2 : goal.returns-then-size-ne2
returns-then-size-ne2 c = other_none c.args.self.now c.requires c.at.ensures c.shared-here.ensures c.size.ensures.0 c.args.k c.if-size-ne2.true

pub returns : goal.returns
returns c = other_some c.args.self.now c.requires c.at.ensures c.shared-here.ensures c.size.ensures.0 c.args.k c.if-size-ne2.false c.without.ensures c.next.ensures
