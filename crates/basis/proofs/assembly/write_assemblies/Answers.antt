-- Before each turn the basis rings of the assemblies below a have their numbers at their places. Assumes nothing.
use mathlib.Core.Path.{sym, ap, ◌∙◌}
use Prim.Native.Nat.{ℕ}
use native.Mathlib.Omega.{arith}
use lib.ListN.{length, get_or}
use Rattle.sets.specs.Bits.{has}
use Rattle.sets.specs.Ring.{bits, no_rings}
use Rattle.basis.specs.Held.{held_sets}
use Rattle.basis.proofs.Holding.{members-at}
use Rattle.basis.proofs.Writing.{assigned_more, assigned_all}
use Rattle.basis.proofs.assembly.write_assemblies.Goals as goal

pub number_members-requires : goal.number_members-requires
number_members-requires c i e =
    let at = members-at (held_sets c.args.found.now) c.loop-a.a ∙ ap (λ sets. bits (get_or sets c.loop-a.a no_rings)) (sym c.deref-members-items.ensures.0) in
    omega (arith, c.requires c.loop-a.a i (ap (λ (s : ℕ). has s i) at ∙ e))

pub loop-a-preserved : goal.loop-a-preserved
loop-a-preserved c rs o =
    assigned_more o (omega (arith, ap length c.deref-members-items.ensures.0)) (c.loop-a.invariant rs o) (rw c.deref-members-items.ensures.0 at c.number_members.ensures)

pub returns : goal.returns
returns c rs room o = assigned_all o room (omega (arith, ap length c.deref-members-items.ensures.0)) (c.loop-a.invariant rs o)
