-- What a function tells, a count or a refusal, as the numbers that C gets. Assumes nothing.
use Rattle.std.specs.Prelude.{◌≡◌, ℕ, Result, Ok, Err}
use Rattle.definitions.specs.Table.{ODD, ATOMS, BONDS, END, SELF, TWICE, TANGLED, ROOM, NOTRING}
use Rattle.definitions.specs.Answer.{Outcome, outcome_of}
use Rattle.answers.specs.declared.answer.Answer.{Answer}
use Rattle.answers.specs.declared.refusal.Refusal.{Refusal}
use Rattle.answers.specs.declared.refusal.Refusal.TheVariants.{Odd, Atoms, Bonds, End, SelfBond, Twice, Tangled, Room, NotRing}

-- the number of a refusal
abbrev pub number_of : Refusal → ℕ
number_of Odd = ODD
number_of Atoms = ATOMS
number_of Bonds = BONDS
number_of End = END
number_of SelfBond = SELF
number_of Twice = TWICE
number_of Tangled = TANGLED
number_of Room = ROOM
number_of NotRing = NOTRING

-- 0 where something is given, and the number of the refusal where nothing is
abbrev pub code_of : {A : Type 0} → Result A Refusal → ℕ
code_of (Ok a) = 0
code_of (Err e) = number_of e

-- the count that is told; a refusal has count 0
abbrev pub count_of : Result ℕ Refusal → ℕ
count_of (Ok n) = n
count_of (Err e) = 0

-- what is told, with what is left in what was lent
abbrev pub told : {A : Type 0} → Result ℕ Refusal → A → Outcome A
told r left = outcome_of (code_of r) (count_of r) left

-- the answer has the numbers of what is told
abbrev pub AnswerOf : Result ℕ Refusal → Answer → Type 0
AnswerOf r a = (a.number ≡ code_of r) × (a.count ≡ count_of r)
