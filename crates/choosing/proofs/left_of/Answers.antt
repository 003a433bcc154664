-- What is left differs from the ring by a sum of sets kept, and its lowest bond rises until no set is kept there. Assumes nothing.
use Prim.Native.Nat.{◌<◌}
use native.Mathlib.Omega.{arith}
use Rattle.sets.specs.Bond.{bits, room}
use Rattle.sets.specs.Lists.{sets_in}
use Rattle.sets.proofs.Lists.{sets-whole}
use Rattle.sets.proofs.Machine.{bond-lt}
use Rattle.definitions.specs.Table.{max_bonds}
use Rattle.spans.specs.Elimination.{Lowest}
use Rattle.spans.proofs.Elimination.{left-start}
use Rattle.choosing.proofs.Reducing.{some_lowest, remainder_none, remainder_some, reduced_left, reduced_falls}
use borrow.Author.Rules.{rules}
use Rattle.choosing.proofs.left_of.Goals as goal
use Rattle.choosing.proofs.left_of.Goals.{After-next}

-- the lowest bond that is left
low : (c : After-next) → (c.next.result < room) × Lowest (bits c.loop-other.rest) c.next.result
low c = some_lowest c.loop-other.invariant.0 c.is_empty.ensures c.loop-other-test.true c.next.ensures

pub loop-other-init : goal.loop-other-init
loop-other-init c = (bond-lt c.args.ring (search rules), left-start (sets_in c.args.kept.now) (bits c.args.ring))

pub at-other-requires : goal.at-other-requires
at-other-requires c = omega (arith, sets-whole max_bonds c.args.kept.now (search rules), (low (goal.at.at-other-requires c).After-next).0)

pub returns-then-is_empty : goal.returns-then-is_empty
returns-then-is_empty c =
    remainder_some _ (low (goal.at.returns-then-is_empty c).After-next).1 c.at-other.ensures c.is_empty-in-loop-other.ensures
    c.loop-other.invariant.1 c.if-is_empty.true

pub loop-other-smaller : goal.loop-other-smaller
loop-other-smaller c =
    let first = low (goal.at.loop-other-smaller c).After-next in
    reduced_falls _ first.1 c.at-other.ensures c.is_empty-in-loop-other.ensures c.requires c.if-is_empty.false c.loop-other.invariant.0 c.sum-rest.ensures
    (bond-lt c.sum-rest.result (search rules)) first.0

pub loop-other-preserved : goal.loop-other-preserved
loop-other-preserved c =
    (bond-lt c.sum-rest.result (search rules), reduced_left _ _ _ _ c.loop-other.invariant.1 c.at-other.ensures c.sum-rest.ensures)

pub returns : goal.returns
returns c = remainder_none c.loop-other.invariant.1 c.is_empty.ensures c.loop-other-test.false
