-- The least member is given and taken out. Assumes nothing.
use mathlib.Core.Path.{ap, ◌∙◌}
use native.Mathlib.Omega.{arith}
use lib.ListN.{length}
use Rattle.std.proofs.Common.{rules}
use Rattle.sets.specs.Rising.{rising}
use Rattle.sets.proofs.Upward.{rising_empty, rising_word}
use Rattle.sets.proofs.rising.RisingIterator.next.Goals as goal

pub returns-then-self-eq0-clause-steps : goal.returns-then-self-eq0-clause-steps
returns-then-self-eq0-clause-steps c = let e = ap (rising 64) c.if-self-eq0.true ∙ rising_empty 64 in (e, e)

pub returns-clause-steps : goal.returns-clause-steps
returns-clause-steps c = rising_word 64 c.args.self.now.0 (omega (arith, c.if-self-eq0.false)) (search rules)

pub returns-clause-goes : goal.returns-clause-goes
returns-clause-goes c =
    let less = ap length (rising_word 64 c.args.self.now.0 (omega (arith, c.if-self-eq0.false)) (search rules)) in
    record { on = λ f. (tt, tt, omega (arith, less)); keeps = tt; rests = λ f. tt }
