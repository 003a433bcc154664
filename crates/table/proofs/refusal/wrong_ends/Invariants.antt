-- Before each turn it is told of the bonds tried so far whether one is wrong. Assumes nothing.
use mathlib.Core.Path.{◌≡◌}
use Rattle.definitions.specs.Search.{some?}
use Rattle.definitions.specs.Table.{table, bad_end?, self_bond?}
use Rattle.table.specs.Ends.{bonds_alone}
use Rattle.table.proofs.refusal.wrong_ends.Given as goal

abbrev pub invariant-loop-k : goal.invariant-loop-k
invariant-loop-k l =
    (l.outside ≡ some? l.k (bad_end? (table l.atoms l.bonds))) × (l.same ≡ some? l.k (self_bond? (bonds_alone l.bonds)))
