-- A refusal is passed on; else what is taken of the rings found of what is worked out is the smallest basis. Assumes nothing.
use mathlib.Core.Path.{◌∙◌}
use Rattle.answers.proofs.Answers.{passed, sets-refused}
use Rattle.perception.proofs.Perceiving.{perceived_spanned}
use Rattle.lists.proofs.Laws.{spanned_sorted, perceived_workable, perceived_smallest}
use Rattle.lists.proofs.smallest_basis.Goals as goal

pub returns-in_err-seen-clause-answer : goal.returns-in_err-seen-clause-answer
returns-in_err-seen-clause-answer c = passed _ _ _ c.from_residual.ensures.1 ∙ sets-refused _ _ _ c.in_err-seen.ensures.number

pub write_wanted-requires : goal.write_wanted-requires
write_wanted-requires c = let seen = c.in_ok-seen.ensures in ((seen.worked.basis.counted, spanned_sorted (perceived_spanned seen)), perceived_workable seen)

pub returns-clause-answer : goal.returns-clause-answer
returns-clause-answer c = perceived_smallest c.in_ok-seen.ensures c.args.out.now c.write_wanted.ensures
