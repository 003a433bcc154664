-- A refusal is passed on. Assumes nothing.
use mathlib.Core.Path.{◌∙◌}
use Rattle.answers.proofs.Answers.{passed, sets-refused}
use Rattle.basis.proofs.basis_rings.Goals as goal

pub returns-in_err-basis-clause-answer : goal.returns-in_err-basis-clause-answer
returns-in_err-basis-clause-answer c = passed _ _ _ c.from_residual.ensures.1 ∙ sets-refused _ _ _ c.in_err-basis.ensures.number
