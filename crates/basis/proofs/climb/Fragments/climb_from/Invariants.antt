-- Before each turn the climb has come to a; each step goes to a lower atom. Assumes nothing.
use Prim.Native.Nat.{◌≤◌}
use Rattle.sets.specs.Bond.{bits}
use Rattle.sets.specs.Lists.{sets_in}
use Rattle.basis.specs.Climbing.{Climbed}
use Rattle.basis.proofs.climb.Fragments.climb_from.Given as goal

abbrev pub invariant-loop-a : goal.invariant-loop-a
invariant-loop-a l = (l.a ≤ l.atom) × Climbed l.self.lower (sets_in l.self.ways) l.atom l.a (bits l.bonds)

abbrev pub decreases-loop-a : goal.decreases-loop-a
decreases-loop-a l = l.a
