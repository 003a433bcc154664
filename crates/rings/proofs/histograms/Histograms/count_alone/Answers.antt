-- What is found is the ring itself, which is counted under its size in both lists. Assumes nothing.
use mathlib.Core.Path.{ap, ◌∙◌}
use Prim.Native.Nat.{◌<◌}
use native.Mathlib.Omega.{arith}
use Rattle.sets.specs.Bits.{size}
use Rattle.sets.specs.Ring.{room}
use Rattle.sets.proofs.Lists.{sets-whole}
use Rattle.sets.proofs.Machine.{ring-lt}
use Rattle.definitions.specs.Table.{max_bonds}
use Rattle.rings.proofs.Tallying.{single_inside, both_single}
use borrow.Author.Rules.{rules}
use Rattle.rings.proofs.histograms.Histograms.count_alone.Goals as goal
use Rattle.rings.proofs.histograms.Histograms.count_alone.Goals.{After-next}

-- the ring has a place
inside : (c : After-next) → c.next.result < room
inside c =
    single_inside c.requires.0 (ring-lt c.args.assembly.members (search rules)) c.next.ensures

pub at-requires : goal.at-requires
at-requires c = omega (arith, inside (goal.at.at-requires c).After-next, sets-whole max_bonds c.args.assembly.rings.now (search rules))

pub returns : goal.returns
returns c = let (single, free) = c.requires in
    both_single single (ring-lt c.args.assembly.members (search rules)) c.next.ensures free
    (c.size-size.ensures.0 ∙ ap size c.at.ensures) (omega (arith, c.size-size.ensures.1)) c.max-self.ensures
