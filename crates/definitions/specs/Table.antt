-- A table: how many atoms there are, any number, and two bytes for each bond, the numbers of its atoms. Atoms and bonds count from 0; the
-- first two bytes are bond 0. Assumes nothing.
use Rattle.std.specs.Prelude.{Bool, ◌||◌, ◌&&◌, cond, List, [], ◌∷◌, ℕ, ◌+◌, ◌*◌, ◌/◌, ◌%◌, length, get_or, leb, ltb, eqb}
use Rattle.definitions.specs.Search.{some?}

pub record Table : Type 0 where
  pub atoms : ℕ
  pub bytes : List ℕ

abbrev pub table : ℕ → List ℕ → Table
table n bs = record { atoms = n; bytes = bs }

-- the number of bonds
abbrev pub bonds : Table → ℕ
bonds M = length M.bytes / 2

-- the two atoms of bond k: the end that is written first, and the other
abbrev pub tail : Table → ℕ → ℕ
tail M k = get_or M.bytes (2 * k) 0

abbrev pub head : Table → ℕ → ℕ
head M k = get_or M.bytes (2 * k + 1) 0

-- the most atoms and the most bonds that are accepted
abbrev pub max_atoms : ℕ
max_atoms = 64

abbrev pub max_bonds : ℕ
max_bonds = 64

-- the sizes that a set of bonds can have are those below this
abbrev pub all_sizes : ℕ
all_sizes = max_bonds + 1

-- bond k meets atom a
abbrev pub meets? : Table → ℕ → ℕ → Bool
meets? M a k = eqb (tail M k) a || eqb (head M k) a

-- bonds j and k have the same two atoms, either way round
abbrev pub alike? : Table → ℕ → ℕ → Bool
alike? M k j = (eqb (tail M k) (tail M j) && eqb (head M k) (head M j)) || (eqb (tail M k) (head M j) && eqb (head M k) (tail M j))

-- ---- the refusals of a table: what each test looks for

-- the last byte is half a bond
abbrev pub odd? : Table → Bool
odd? M = eqb (length M.bytes % 2) 1

-- there is no atom, or there are too many
abbrev pub bad_atoms? : Table → Bool
bad_atoms? M = eqb M.atoms 0 || ltb max_atoms M.atoms

-- there are too many bonds
abbrev pub bad_bonds? : Table → Bool
bad_bonds? M = ltb max_bonds (bonds M)

-- an end of bond k is no atom of the table
abbrev pub bad_end? : Table → ℕ → Bool
bad_end? M k = leb M.atoms (tail M k) || leb M.atoms (head M k)

-- the two ends of bond k are one atom
abbrev pub self_bond? : Table → ℕ → Bool
self_bond? M k = eqb (tail M k) (head M k)

-- a bond before bond k has its two atoms
unfoldable pub seen_before? : Table → ℕ → Bool
seen_before? M k = some? k (alike? M k)

-- the numbers of the refusals
abbrev pub ODD : ℕ
ODD = 1

abbrev pub ATOMS : ℕ
ATOMS = 2

abbrev pub BONDS : ℕ
BONDS = 3

abbrev pub END : ℕ
END = 4

abbrev pub SELF : ℕ
SELF = 5

abbrev pub TWICE : ℕ
TWICE = 6

abbrev pub TANGLED : ℕ
TANGLED = 7

abbrev pub ROOM : ℕ
ROOM = 8

abbrev pub NOTRING : ℕ
NOTRING = 9

-- each number with its test, the one that is tried first in front; a test of bonds looks at all of them
abbrev pub table_tests : Table → List (ℕ × Bool)
table_tests M =
    (ODD, odd? M)
    ∷ (ATOMS, bad_atoms? M)
    ∷ (BONDS, bad_bonds? M)
    ∷ (END, some? (bonds M) (bad_end? M))
    ∷ (SELF, some? (bonds M) (self_bond? M))
    ∷ (TWICE, some? (bonds M) (seen_before? M))
    ∷ []

-- the number of the first test that passes, and 0 where none does
unfoldable pub first_of : List (ℕ × Bool) → ℕ
first_of [] = 0
first_of (t ∷ ts) = cond t.1 t.0 (first_of ts)

-- why a table is refused, and 0 where it is accepted
unfoldable pub refusal : Table → ℕ
refusal M = first_of (table_tests M)
