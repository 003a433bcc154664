-- A walk as the code goes it: round which bonds, where it stands, and what is noted on the way. Assumes nothing.
use Rattle.std.specs.Prelude.{List, map, ℕ, ◌+◌, ◌≤◌, ◌<◌}
use Rattle.std.proofs.lemmas.List.Edits.{sets}
use Rattle.definitions.specs.Table.{Table, bonds, max_atoms, max_bonds}
use Rattle.table.specs.Ends.{bonds_alone}
use Rattle.walk.specs.declared.round.Ring.{Ring}
use Rattle.walk.specs.declared.round.Place.{Place}
use Rattle.walk.specs.declared.round.Walk.{Walk}

-- the table of which a ring has the bonds
abbrev pub table_of : Ring → Table
table_of r = bonds_alone r.bonds.now

-- a place with a bond of the table, from which no more bonds are to go than a walk has room for
pub record Standing (r : Ring) (at : Place) : Type 0 where
  pub atom : at.atom < max_atoms
  pub bond : at.bond < bonds (table_of r)
  pub room : at.gone + at.left ≤ max_bonds

-- the walk with places, each an atom and a bond, noted one after another from place i on
abbrev pub noted : Walk → ℕ → List (ℕ × ℕ) → Walk
noted w i places = record { atoms = sets w.atoms i (map (λ p. p.0) places); bonds = sets w.bonds i (map (λ p. p.1) places) }
