-- Demand 1: every call is answered, and the caller owes nothing. What can't be answered is refused with a number for its reason, the count 0,
-- and nothing lent changed: a bad table, an assembly of more than ten basis rings where all rings are needed, a set to walk round that is no
-- ring, or too little room.
-- Assumes nothing.
use Rattle.std.specs.Prelude.{◌≡◌, ◌≢◌, ◌⊎◌, List, ℕ, length, take, drop}
use Rattle.sets.specs.Bits.{size}
use Rattle.sets.specs.Lists.{in_words}
use Rattle.definitions.specs.Table.{Table}
use Rattle.definitions.specs.Walk.{walk_atoms, walk_bonds}
use Rattle.definitions.specs.Sentences.{TooShort, wrongs_of_walk, or_no_room, Told}
use Rattle.foliocrane.specs.Call.{Call, table_in}

-- a call is answered, where these sentences say what may be wrong, n things are wanted, and they are these items of a list
pub record Answered (wrong : List (ℕ × Type 0)) (n : ℕ) (wanted : List ℕ) (c : Call) : Type 0 where
  -- the number is that of the first sentence that holds, or 0 where none does
  pub told : Told wrong c.number
  -- a refusal counts nothing and leaves the lent list as it was
  pub refused : c.number ≢ 0 → (c.count ≡ 0) × (c.left ≡ c.lent)
  -- else the things are counted, the lent list starts with their items, and the rest of it is as it was
  pub given : c.number ≡ 0
      → (c.count ≡ n) × (take (length wanted) c.left ≡ wanted) × (drop (length wanted) c.left ≡ drop (length wanted) c.lent)
  -- in any case the bonds are as they were
  pub unaltered : c.bonds-after ≡ c.bonds

-- these bytes of the table are wanted, and the bytes are counted
abbrev pub AnsweredBytes : (Table → List (ℕ × Type 0)) → (Table → List ℕ) → Call → Type 0
AnsweredBytes wrong bytes c = let M = table_in c in Answered (or_no_room (wrong M) (TooShort (bytes M) c.lent)) (length (bytes M)) (bytes M) c

-- these sets of the table are wanted, as words, and the sets are counted
abbrev pub AnsweredSets : (Table → List (ℕ × Type 0)) → (Table → List ℕ) → Call → Type 0
AnsweredSets wrong sets c =
    let M = table_in c in Answered (or_no_room (wrong M) (TooShort (in_words (sets M)) c.lent)) (length (sets M)) (in_words (sets M)) c

-- the atoms and the bonds of a ring are wanted, each in its list; they are refused together where either list is too short, and what is
-- counted is the size of the ring
abbrev pub AnsweredWalk : ℕ → Call → Call → Type 0
AnsweredWalk s c d =
    let M = table_in c in
    let wrong = or_no_room (wrongs_of_walk M s) (TooShort (walk_atoms M s) c.lent ⊎ TooShort (walk_bonds M s) d.lent) in
    Answered wrong (size s) (walk_atoms M s) c × Answered wrong (size s) (walk_bonds M s) d

-- nothing is assumed of the caller: what a function asks for holds of all arguments
abbrev pub AsksNothing : {K A : Type 0} → (K → A → Type 0) → Type 0
AsksNothing {K} {A} asked = (κs : K) (a : A) → asked κs a
