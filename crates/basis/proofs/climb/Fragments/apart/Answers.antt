-- Each atom leads to itself. Assumes nothing.
use mathlib.Core.Path.{◌≡◌}
use Prim.Native.Nat.{ℕ, ◌<◌}
use native.Mathlib.Omega.{arith}
use lib.ListN.{get_or}
use borrow.Author.Rules.{rules}
use Rattle.sets.proofs.Lists.{sets-blank}
use Rattle.definitions.specs.Table.{max_atoms}
use Rattle.basis.proofs.climb.Fragments.apart.Goals as goal
use Rattle.basis.proofs.climb.Fragments.apart.Goals.{After-from_fn}

-- the closure hands its number back
own : (c : After-from_fn) → (a : ℕ) → a < max_atoms → get_or c.from_fn.result a 0 ≡ a
own c a h = let e = c.from_fn.ensures.items.at a 0 h in search rules

pub invariant_of-result : goal.invariant_of-result
invariant_of-result c = record { falling = λ a h. omega (arith, own (goal.at.invariant_of-result c).After-from_fn a h) }

pub returns-clause-own : goal.returns-clause-own
returns-clause-own c = own (goal.at.returns-clause-own c).After-from_fn

pub returns-clause-ways : goal.returns-clause-ways
returns-clause-ways c = sets-blank max_atoms
