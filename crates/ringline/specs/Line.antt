-- The lines of the program's steps. Assumes nothing.
use Rattle.std.specs.Borrow.{Bor}
use Rattle.std.specs.Prelude.{Result, Ok, Err, List, [], ◌∷◌, ◌++◌, ℕ}
use Rattle.definitions.specs.Text.{hex, space, newline}
use Rattle.answers.specs.declared.refusal.Refusal.{Refusal}
use Rattle.answers.specs.Told.{number_of}
use Rattle.records.specs.Spaced.{spaced}

-- 0 and a label in hex, or the number of a refusal and `-`
abbrev pub answer_text : Result (Bor (List ℕ)) Refusal → List ℕ
answer_text (Ok label) = 48 ∷ space ∷ hex label.now
answer_text (Err refusal) = spaced (number_of refusal) ++ (45 ∷ [])

-- the line of record n with these
abbrev pub answer_line : ℕ → Result (Bor (List ℕ)) Refusal → List ℕ
answer_line n label = spaced n ++ (answer_text label ++ (newline ∷ []))
