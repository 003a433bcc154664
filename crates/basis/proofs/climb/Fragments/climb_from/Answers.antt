-- Before each turn the climb has come to a; each step goes to a lower atom. Assumes nothing.
use mathlib.Core.Path.{subst⁻¹}
use native.Mathlib.Omega.{arith}
use borrow.Author.Rules.{rules}
use Rattle.sets.proofs.Lists.{sets-whole}
use Rattle.sets.proofs.Machine.{no_bonds_lem}
use Rattle.definitions.specs.Table.{max_atoms}
use Rattle.basis.specs.Climbing.{Climbed}
use Rattle.basis.specs.Climbing.Climbed.{start}
use Rattle.basis.proofs.Leading.{climbed-on}
use Rattle.basis.proofs.climb.Fragments.climb_from.Goals as goal

pub loop-a-init : goal.loop-a-init
loop-a-init c = (omega arith, subst⁻¹ (Climbed _ _ _ _) no_bonds_lem start)

pub at-requires : goal.at-requires
at-requires c = omega (arith, sets-whole max_atoms c.args.self.now.ways (search rules))

pub loop-a-preserved : goal.loop-a-preserved
loop-a-preserved c = (omega (arith, c.loop-a.invariant.0), climbed-on c.loop-a.invariant.1 (omega arith) c.at.ensures c.sum-bonds.ensures)
