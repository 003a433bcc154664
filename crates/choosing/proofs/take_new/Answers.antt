-- The ring is taken where something is left of it, and what is left is kept at its lowest bond. Assumes nothing.
use mathlib.Core.Path.{sym, ◌∙◌}
use Prim.Native.Nat.{◌<◌}
use native.Mathlib.Omega.{arith}
use borrow.Author.Tests.{eqb-true}
use Rattle.sets.specs.Bond.{bits, room}
use Rattle.sets.proofs.Machine.{bond-lt}
use Rattle.spans.specs.Elimination.{Lowest}
use Rattle.choosing.proofs.Reducing.{some_lowest}
use Rattle.choosing.proofs.Selecting.{step_new, step_old}
use borrow.Author.Rules.{rules}
use Rattle.choosing.proofs.take_new.Goals as goal
use Rattle.choosing.proofs.take_new.Goals.{After-next}

-- the lowest bond that is left
low : (c : After-next) → (c.next.result < room) × Lowest (bits c.left_of-rest.result) c.next.result
low c = some_lowest (bond-lt c.left_of-rest.result (search rules)) c.is_empty.ensures c.if-is_empty.false c.next.ensures

pub returns-then-is_empty : goal.returns-then-is_empty
returns-then-is_empty c = step_old c.requires.0 c.left_of-rest.ensures (eqb-true (bits c.left_of-rest.result) 0 (sym c.is_empty.ensures ∙ c.if-is_empty.true))

pub put_at-requires : goal.put_at-requires
put_at-requires c = omega (arith, c.requires.0.long, (low (goal.at.put_at-requires c).After-next).0)

pub returns : goal.returns
returns c =
    step_new c.requires.0 c.left_of-rest.ensures c.requires.1 (low (goal.at.returns c).After-next) c.put_at.ensures.sets c.put_at-2.ensures.sets
