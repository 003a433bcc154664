-- What is worked out of a table for all rings, the smallest basis and the label, before any ring is combined. Assumes nothing.
use Rattle.std.specs.Prelude.{◌≡◌, true, List, ℕ, ◌-◌, ◌^◌, get_or, Result, IfOk}
use Rattle.answers.specs.Told.{code_of}
use Rattle.answers.specs.declared.refusal.Refusal.{Refusal}
use Rattle.sets.specs.Bits.{size}
use Rattle.definitions.specs.Search.{listed, total}
use Rattle.definitions.specs.Table.{Table}
use Rattle.definitions.specs.Basis.{basis_rings}
use Rattle.definitions.specs.Answer.{refusal_of_rings}
use Rattle.basis.specs.Held.{Holds, members_of, held_count, AssembliesOf}
use Rattle.perception.specs.declared.Perceived.{Perceived}

-- how many sets the lists hold in which rings are worked out
abbrev pub few : ℕ
few = 32

abbrev pub many : ℕ
many = 1024

-- how many sums that are not empty the first n assemblies have, whose sets of basis rings are given: k basis rings have 2 ^ k - 1
abbrev pub sums_in : List ℕ → ℕ → ℕ
sums_in members n = total (listed n (λ a. true) (λ a. 2 ^ size (get_or members a 0) - 1))

-- of an accepted table: the basis rings and the assemblies, and how many sums these have
pub record Accepted (M : Table) (p : Perceived) : Type 0 where
  pub basis : Holds M p.basis
  pub assemblies : AssembliesOf (basis_rings M) p.assemblies
  pub sums : p.sums ≡ sums_in (members_of p.assemblies) (held_count p.assemblies)

-- r tells why the table is refused, or has what is worked out
pub record Perceives (M : Table) (r : Result Perceived Refusal) : Type 0 where
  pub number : code_of r ≡ refusal_of_rings M
  pub worked : IfOk r (Accepted M)
