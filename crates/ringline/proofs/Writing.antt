-- The lines of the program: how long they are, and the parts that they are made of. Assumes nothing.
use mathlib.Core.Path.{◌≡◌, refl, ap}
use mathlib.Core.List.{List, [], ◌∷◌, ◌++◌, append_assoc}
use Prim.Native.Nat.{ℕ, zero, suc, ◌+◌}
use native.Mathlib.Omega.{arith}
use lib.ListN.{length, length-append}
use Rattle.definitions.specs.Table.{Table}
use Rattle.definitions.specs.Label.{label_of}
use Rattle.definitions.specs.Answer.{refusal_of_rings}
use Rattle.definitions.specs.Text.{decimal_in, decimal, hex, space, newline}
use Rattle.definitions.specs.Ringline.{label_text, end_line, frame_line, record_line}
use Rattle.records.specs.Spaced.{spaced}

-- ---- how long the lines are

-- `end `, the number and the line's end
pub length-end_line : (n : ℕ) → length (end_line n) ≡ length (decimal n) + 5
unfolding end_line
length-end_line n = omega (arith, length-append (decimal n) (newline ∷ []))

-- the number and ` frame` with the line's end
pub length-frame_line : (n : ℕ) → length (frame_line n) ≡ length (decimal n) + 7
unfolding frame_line
length-frame_line n = length-append (decimal n) _

-- two numbers, each with a space, the label's text and the line's end
pub length-record_line : (n : ℕ) (M : Table) → let c = refusal_of_rings M in length (record_line n M) ≡ length (decimal n) + length (decimal c) + length (label_text c (label_of M)) + 3
unfolding record_line
length-record_line n M =
    let c = refusal_of_rings M in
    let text = label_text c (label_of M) in
    omega (arith, length-append (decimal n) (space ∷ (decimal c ++ (space ∷ (text ++ (newline ∷ []))))), length-append (decimal c) (space ∷ (text ++ (newline ∷ []))), length-append text (newline ∷ []))

-- ---- the parts of a line

-- a number, a space and `frame`
pub frame_parts : (n : ℕ) → spaced n ++ (102 ∷ 114 ∷ 97 ∷ 109 ∷ 101 ∷ newline ∷ []) ≡ frame_line n
unfolding spaced frame_line
frame_parts n = append_assoc (decimal n) _ _

-- two numbers, each with a space, the label's text and the line's end
pub line_parts : (n : ℕ) (M : Table) {text : List ℕ} → text ≡ spaced (refusal_of_rings M) ++ label_text (refusal_of_rings M) (label_of M) → spaced n ++ (text ++ (newline ∷ [])) ≡ record_line n M
unfolding spaced record_line
line_parts n M e = rw e (simp append_assoc)

-- an accepted table has its label in hex
pub text_accepted : (c : ℕ) (label : List ℕ) → c ≡ 0 → hex label ≡ label_text c label
unfolding label_text
text_accepted zero label e = refl
text_accepted (suc c) label e = absurd (omega arith)

-- a refused one `-`
pub text_refused : (c : ℕ) (label : List ℕ) → (c ≡ 0 → ⊥) → 45 ∷ [] ≡ label_text c label
unfolding label_text
text_refused zero label e = absurd (e refl)
text_refused (suc c) label e = refl

-- a label is told with 0 before it
pub told_accepted : (c : ℕ) (label : List ℕ) → c ≡ 0 → 48 ∷ space ∷ hex label ≡ spaced c ++ label_text c label
unfolding label_text spaced decimal decimal_in
told_accepted zero label e = refl
told_accepted (suc c) label e = absurd (omega arith)

-- a refusal with its number
pub told_refused : (c : ℕ) (label : List ℕ) → (c ≡ 0 → ⊥) → spaced c ++ (45 ∷ []) ≡ spaced c ++ label_text c label
told_refused c label e = ap (λ (t : List ℕ). spaced c ++ t) (text_refused c label e)
