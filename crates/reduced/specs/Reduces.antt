-- What a Reduced holds, and of which table. Assumes nothing.
use Rattle.std.specs.Prelude.{◌≡◌, length, replicate, Result, IfOk}
use Rattle.sets.specs.Lists.{sets_in}
use Rattle.definitions.specs.Table.{Table, refusal, max_bonds}
use Rattle.definitions.specs.Reduced.{reduced_basis}
use Rattle.definitions.specs.Answer.{over}
use Rattle.answers.specs.Told.{code_of}
use Rattle.answers.specs.declared.refusal.Refusal.{Refusal}
use Rattle.reduced.specs.declared.Reduced.{Reduced}

-- r tells why the table is refused, or has the reduced basis, with empty sets after it
pub record Reduces (M : Table) (r : Result Reduced Refusal) : Type 0 where
  pub number : code_of r ≡ refusal M
  pub count : IfOk r (λ found. found.count ≡ length (reduced_basis M))
  pub sets : IfOk r (λ found. sets_in found.sets ≡ over (reduced_basis M) (replicate max_bonds 0))
