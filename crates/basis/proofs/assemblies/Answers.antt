-- A refusal is passed on; the list is long enough or is refused; and each ring of the basis has its assembly written. Assumes nothing.
use mathlib.Core.Path.{◌∙◌}
use native.Mathlib.Omega.{arith}
use Rattle.answers.proofs.Answers.{passed, is_refused, is_short, is_full}
use Rattle.basis.proofs.Holding.{assemblies-counted}
use Rattle.basis.proofs.Writing.{assemblies_places, assemblies-over}
use Rattle.basis.proofs.assemblies.Goals as goal

pub returns-in_err-basis-clause-answer : goal.returns-in_err-basis-clause-answer
returns-in_err-basis-clause-answer c = passed _ _ _ c.from_residual.ensures.1 ∙ is_refused _ _ _ c.in_err-basis.ensures.number

pub returns-then-out-rings-clause-answer : goal.returns-then-out-rings-clause-answer
returns-then-out-rings-clause-answer c = let basis = c.in_ok-basis.ensures in is_short _ _ basis.number (assemblies-counted basis.rings) (omega arith)

pub write_assemblies-requires : goal.write_assemblies-requires
write_assemblies-requires c = assemblies_places c.in_ok-basis.ensures.rings c.assemblies_of-found.ensures c.args.out.now (omega arith)

pub returns-clause-answer : goal.returns-clause-answer
returns-clause-answer c =
    let basis = c.in_ok-basis.ensures in
    is_full _ _ basis.number (assemblies-counted basis.rings) (omega arith) (assemblies-over basis.rings c.assemblies_of-found.ensures _ (omega arith) c.write_assemblies.ensures)
