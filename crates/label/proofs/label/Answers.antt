-- The refusal is passed on. What is counted of an accepted table is written as its label. Assumes nothing.
use mathlib.Core.Path.{◌∙◌}
use native.Mathlib.Omega.{arith}
use Rattle.answers.proofs.Answers.{passed, is_refused}
use Rattle.label.proofs.Labelling.{cleared, label_written}
use Rattle.label.proofs.label.Goals as goal

pub count_rings-requires : goal.count_rings-requires
count_rings-requires c = (cleared, cleared, omega arith)

pub returns-in_err-counts-clause-answer : goal.returns-in_err-counts-clause-answer
returns-in_err-counts-clause-answer c = passed _ _ _ c.from_residual.ensures.1 ∙ is_refused _ _ _ c.in_err-counts.ensures.number

pub returns-clause-answer : goal.returns-clause-answer
returns-clause-answer c = label_written c.in_ok-counts.ensures _ c.write_label.ensures
