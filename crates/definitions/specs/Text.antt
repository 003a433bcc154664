-- The text of the programs: numbers in decimal, bytes in hex. A text is a list of bytes. Assumes nothing.
use Rattle.std.specs.Prelude.{true, false, List, [], ◌∷◌, ◌++◌, ℕ, zero, suc, ◌+◌, ◌/◌, ◌%◌, ltb}

-- a digit, decimal or lower-case hexadecimal
abbrev pub glyph : ℕ → ℕ
glyph d = elim (ltb d 10) [ true ↦ 48 + d | false ↦ 87 + d ]

-- a number in decimal, in n digits at most
unfoldable pub decimal_in : ℕ → ℕ → List ℕ
decimal_in zero x = []
decimal_in (suc n) x = elim (ltb x 10) [ true ↦ glyph x ∷ [] | false ↦ decimal_in n (x / 10) ++ (glyph (x % 10) ∷ []) ]

-- a number in decimal: it has no more digits than its value and one
unfoldable pub decimal : ℕ → List ℕ
decimal x = decimal_in (x + 1) x

-- bytes in lower-case hex
unfoldable pub hex : List ℕ → List ℕ
hex [] = []
hex (b ∷ bs) = glyph (b / 16) ∷ glyph (b % 16) ∷ hex bs

abbrev pub space : ℕ
space = 32

abbrev pub newline : ℕ
newline = 10
