-- Fragments: what bonds hold together, as each ion of a salt. Assumes nothing.
use Rattle.std.specs.Prelude.{true, ℕ, get_or, eqb}
use Rattle.definitions.specs.Search.{count}
use Rattle.definitions.specs.Table.{Table, bonds}
use Rattle.definitions.specs.Basis.{Path, fragments}

-- atoms a and b are of one fragment: a path of bonds joins them. The path that stays joins an atom to itself, so an atom without bonds is a
-- fragment by itself
abbrev pub OneFragment : Table → ℕ → ℕ → Type 0
OneFragment M a b = (s : ℕ) × Path M (λ j. true) a b s

-- the same as a number: the first atom of the fragment
unfoldable pub fragment_of : Table → ℕ → ℕ
fragment_of M a = get_or (fragments M (bonds M)) a 0

-- the number of fragments: how many atoms are the first of theirs
unfoldable pub fragment_count : Table → ℕ
fragment_count M = count M.atoms (λ a. eqb (fragment_of M a) a)
