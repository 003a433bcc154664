-- A search: before each turn each row holds the bonds tried so far that meet its atom, and none of these has the two atoms of another.
-- Assumes nothing.
use mathlib.Core.Path.{◌≡◌}
use mathlib.Core.Bool.{false}
use Rattle.definitions.specs.Search.{some?}
use Rattle.definitions.specs.Table.{seen_before?}
use Rattle.table.specs.Ends.{bonds_alone}
use Rattle.table.specs.Rows.{Rowed}
use Rattle.table.proofs.refusal.fill_rows.Given as goal

abbrev pub invariant-loop-k : goal.invariant-loop-k
invariant-loop-k l = Rowed l.bonds l.k l.rows × (some? l.k (seen_before? (bonds_alone l.bonds)) ≡ false)
