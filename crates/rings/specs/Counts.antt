-- What is counted of a table. Assumes nothing.
use Rattle.std.specs.Prelude.{◌≡◌, List, ℕ, ◌≤◌, length, get_or, take, Result, IfOk, OnErr}
use Rattle.answers.specs.Told.{code_of}
use Rattle.answers.specs.declared.refusal.Refusal.{Refusal}
use Rattle.definitions.specs.Table.{Table, max_bonds, all_sizes}
use Rattle.definitions.specs.Basis.{basis_rings}
use Rattle.definitions.specs.AllRings.{all_rings}
use Rattle.definitions.specs.Smallest.{smallest_basis}
use Rattle.definitions.specs.Label.{assembly_pairs}
use Rattle.definitions.specs.Answer.{refusal_of_rings}
use Rattle.ordering.specs.Sizes.{SizesOf}
use Rattle.rings.specs.declared.Counts.{Counts}
use Rattle.rings.specs.declared.histograms.Histograms.{Histograms}

-- nothing is counted yet
pub record Blank (counts : List ℕ) : Type 0 where
  pub long : length counts ≡ all_sizes
  pub none : (z : ℕ) → get_or counts z 0 ≡ 0

-- of an accepted table: how many basis rings, all rings and the smallest basis by size, below one bound, and the pairs in order
pub record Counted (M : Table) (c : Counts) (h : Histograms) (pairs : List ℕ) : Type 0 where
  pub basis : c.basis ≡ length (basis_rings M)
  pub rings : SizesOf (all_rings M) h.all h.top
  pub chosen : SizesOf (smallest_basis M) h.smallest h.top
  pub few : c.pairs ≤ max_bonds
  pub rising : take c.pairs pairs ≡ assembly_pairs M

-- r tells why the table is refused, with nothing counted and no pair written, or what is counted
pub record CountsOf (M : Table) (r : Result Counts Refusal) (start end : Histograms) (lent pairs : List ℕ) : Type 0 where
  pub number : code_of r ≡ refusal_of_rings M
  pub refused : OnErr r ((end ≡ start) × (pairs ≡ lent))
  pub accepted : IfOk r (λ c. Counted M c end pairs)
