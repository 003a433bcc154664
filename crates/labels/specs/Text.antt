-- The label's text, from its values. Assumes nothing.
use Rattle.std.specs.Prelude.{List, [], ◌∷◌, ◌++◌, ℕ}
use Rattle.definitions.specs.Label.{bytes_of_all, field, frerejacque_tag, rings_tag, smallest_tag, assemblies_tag}
use Rattle.labels.specs.Sizes.{lines}

-- the label's four fields, from the Frerejacque number, the histograms of the rings and of the smallest rings, and the assemblies' pairs
abbrev pub fields_of : ℕ → List ℕ → List ℕ → List ℕ → List ℕ
fields_of number rings smallest pairs =
    field frerejacque_tag (bytes_of_all 1 (number ∷ []))
    ++ (field rings_tag rings ++ (field smallest_tag smallest ++ field assemblies_tag (bytes_of_all 2 pairs)))

-- the label's text, from the counts of rings and of smallest rings by size
unfoldable pub label_bytes : ℕ → List ℕ → List ℕ → List ℕ → List ℕ
label_bytes number rings smallest pairs = fields_of number (lines 2 rings) (lines 1 smallest) pairs
