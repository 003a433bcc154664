-- A refusal is passed on; else the rings found of what is worked out are all rings. Assumes nothing.
use mathlib.Core.Path.{◌∙◌}
use Rattle.answers.proofs.Answers.{passed, sets-refused}
use Rattle.lists.proofs.Laws.{perceived_workable, perceived_all}
use Rattle.lists.proofs.all_rings.Goals as goal

pub returns-in_err-seen-clause-answer : goal.returns-in_err-seen-clause-answer
returns-in_err-seen-clause-answer c = passed _ _ _ c.from_residual.ensures.1 ∙ sets-refused _ _ _ c.in_err-seen.ensures.number

pub write_wanted-requires : goal.write_wanted-requires
write_wanted-requires c = (tt, perceived_workable c.in_ok-seen.ensures)

pub returns-clause-answer : goal.returns-clause-answer
returns-clause-answer c = perceived_all c.in_ok-seen.ensures c.args.out.now c.write_wanted.ensures
