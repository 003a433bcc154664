-- The places after the new one are as they were. Assumes nothing.
use mathlib.Core.Path.{sym, ap, ◌∙◌}
use native.Mathlib.Omega.{arith}
use lib.Seq.{get_or-set_other}
use Rattle.sets.specs.Ring.{bits, no_rings}
use Rattle.basis.proofs.Holding.{members-at}
use Rattle.basis.proofs.found.Assemblies.push.Goals as goal

pub invariant_of-self-clause-blank : goal.invariant_of-self-clause-blank
invariant_of-self-clause-blank c a l =
    let s = c.args.self.now in
    members-at _ a ∙ ap bits (get_or-set_other s.members _ a c.args.members no_rings (λ e. absurd (omega arith))) ∙ sym (members-at s.members a) ∙ s.blank a (omega arith)
