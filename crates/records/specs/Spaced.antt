-- A part of a line. Assumes nothing.
use Rattle.std.specs.Prelude.{List, [], ◌∷◌, ◌++◌, ℕ}
use Rattle.definitions.specs.Text.{decimal, space}

-- a number and a space after it
unfoldable pub spaced : ℕ → List ℕ
spaced n = decimal n ++ (space ∷ [])
