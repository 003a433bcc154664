-- The size of the set and that of the union, as one number. Assumes nothing.
use Rattle.sets.specs.Ring.{bits}
use Rattle.sets.specs.Lists.{sets_in}
use Rattle.sets.proofs.Machine.{ring-lt}
use Rattle.rings.proofs.Pairing.{pair_is}
use borrow.Author.Rules.{rules}
use Rattle.rings.proofs.assembly.Assembly.pair.Goals as goal

pub returns : goal.returns
returns c = pair_is (sets_in c.args.self.rings.now) (bits c.args.self.members) (ring-lt c.args.self.members (search rules)) c.size.ensures.0 c.size-2.ensures.0 c.bonds.ensures
