-- What the table check tells is the count of the basis rings. Assumes nothing.
use mathlib.Core.Path.{◌∙◌}
use Rattle.answers.proofs.Answers.{passed, check_refused, check_counted}
use Rattle.basis.proofs.check.Goals as goal

pub returns-in_err-basis-clause-answer : goal.returns-in_err-basis-clause-answer
returns-in_err-basis-clause-answer c = passed _ _ _ c.from_residual.ensures.1 ∙ check_refused _ _ c.in_err-basis.ensures.number

pub returns-clause-answer : goal.returns-clause-answer
returns-clause-answer c = let basis = c.in_ok-basis.ensures in check_counted _ basis.number basis.rings.count
