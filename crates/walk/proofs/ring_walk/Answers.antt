-- A refused table is told so; of an accepted one the walk answers. Assumes nothing.
use mathlib.Core.Path.{sym, ◌∙◌}
use Rattle.definitions.proofs.Refusals.{accepted}
use Rattle.table.proofs.Fitting.{valid_fitting}
use Rattle.answers.proofs.Answers.{passed}
use Rattle.walk.proofs.Answering.{alone_answer, refused_answer}
use Rattle.walk.proofs.ring_walk.Goals as goal

pub returns-in_err-rows-clause-answer : goal.returns-in_err-rows-clause-answer
returns-in_err-rows-clause-answer c = passed _ _ _ c.from_residual.ensures.1 ∙ refused_answer _ _ _ _ c.in_err-rows.ensures.number _

pub invariant_of-ring : goal.invariant_of-ring
invariant_of-ring c = let rows = c.in_ok-rows.ensures in record { fits = valid_fitting ((accepted _).0 (sym rows.number)); rowed = rows.rows }

pub returns-clause-answer : goal.returns-clause-answer
returns-clause-answer c = alone_answer _ _ _ (sym c.in_ok-rows.ensures.number) _ c.write_walk.ensures
