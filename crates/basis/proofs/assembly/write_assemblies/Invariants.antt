-- Before each turn the basis rings of the assemblies below a have their numbers at their places. Assumes nothing.
use mathlib.Core.List.{List}
use Prim.Native.Nat.{ℕ}
use Rattle.basis.specs.Held.{AssembliesOf}
use Rattle.basis.proofs.Writing.{Assigned}
use Rattle.basis.proofs.assembly.write_assemblies.Given as goal

abbrev pub invariant-loop-a : goal.invariant-loop-a
invariant-loop-a l = (rs : List ℕ) → AssembliesOf rs l.fn.found → Assigned rs l.a l.initial.out l.out
