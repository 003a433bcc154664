-- A refusal is passed on; else the sets that are written are the reduced basis. Assumes nothing.
use mathlib.Core.Path.{◌∙◌}
use Rattle.answers.proofs.Answers.{passed, sets-refused, sets-accepted}
use Rattle.reduced.proofs.Reducing.{reduces_sets}
use Rattle.reduced.proofs.reduced_basis.Goals as goal

pub returns-in_err-found-clause-answer : goal.returns-in_err-found-clause-answer
returns-in_err-found-clause-answer c = passed _ _ _ c.from_residual.ensures.1 ∙ sets-refused _ _ _ c.in_err-found.ensures.number

pub returns-clause-answer : goal.returns-clause-answer
returns-clause-answer c = let found = c.in_ok-found.ensures in sets-accepted _ _ found.number (reduces_sets found) c.write_sets.ensures
