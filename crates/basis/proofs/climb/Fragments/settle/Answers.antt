-- Each list takes one store, and that of ways has a place for each atom. Assumes nothing.
use native.Mathlib.Omega.{arith}
use Rattle.sets.proofs.Lists.{sets-whole}
use Rattle.definitions.specs.Table.{max_atoms}
use borrow.Author.Rules.{rules}
use Rattle.basis.proofs.climb.Fragments.settle.Goals as goal

pub put_at-requires : goal.put_at-requires
put_at-requires c = omega (arith, sets-whole max_atoms c.args.self.now.ways (search rules))

pub returns-clause-ways : goal.returns-clause-ways
returns-clause-ways c = c.put_at.ensures.sets
