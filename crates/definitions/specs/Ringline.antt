-- The program `ringline`: from the bytes of standard input to the bytes that it prints. Assumes nothing.
use Rattle.std.specs.Prelude.{true, false, List, [], ◌∷◌, ◌++◌, ℕ, zero, suc, ◌+◌, ◌-◌, length, drop, eqb, ltb}
use Rattle.definitions.specs.Table.{Table}
use Rattle.definitions.specs.Label.{label_of}
use Rattle.definitions.specs.Answer.{refusal_of_rings}
use Rattle.definitions.specs.Text.{decimal, hex, space, newline}
use Rattle.definitions.specs.Records.{whole?, record_bytes, record_table}

-- `rings 1`
abbrev pub first_line : List ℕ
first_line = 114 ∷ 105 ∷ 110 ∷ 103 ∷ 115 ∷ space ∷ 49 ∷ newline ∷ []

-- `end` and the number of records
unfoldable pub end_line : ℕ → List ℕ
end_line n = 101 ∷ 110 ∷ 100 ∷ space ∷ (decimal n ++ (newline ∷ []))

-- `frame` after the number of a broken record
unfoldable pub frame_line : ℕ → List ℕ
frame_line n = decimal n ++ (space ∷ 102 ∷ 114 ∷ 97 ∷ 109 ∷ 101 ∷ newline ∷ [])

-- `long`
abbrev pub long_line : List ℕ
long_line = 108 ∷ 111 ∷ 110 ∷ 103 ∷ newline ∷ []

-- the label in hex, or `-` if refused
unfoldable pub label_text : ℕ → List ℕ → List ℕ
label_text zero label = hex label
label_text (suc c) label = 45 ∷ []

-- the line of a record: its number, that of its label's answer, and the label in hex or `-` where it is refused
unfoldable pub record_line : ℕ → Table → List ℕ
record_line n M =
    let c = refusal_of_rings M in
    decimal n ++ (space ∷ (decimal c ++ (space ∷ (label_text c (label_of M) ++ (newline ∷ [])))))

-- the lines of the records from number n on; the first number is at least how many bytes are left
unfoldable pub lines_of : ℕ → ℕ → List ℕ → List ℕ
lines_of zero n bs = end_line (n - 1)
lines_of (suc fuel) n bs =
    elim (eqb (length bs) 0) [
      | true ↦ end_line (n - 1)
      | false ↦ elim (whole? bs) [ true ↦ record_line n (record_table bs) ++ lines_of fuel (n + 1) (drop (record_bytes bs) bs) | false ↦ frame_line n ]
    ]

-- no longer input is answered
abbrev pub max_input : ℕ
max_input = 32768

-- what the program prints
unfoldable pub ringline : List ℕ → List ℕ
ringline input = elim (ltb max_input (length input)) [ true ↦ long_line | false ↦ first_line ++ lines_of (length input) 1 input ]
