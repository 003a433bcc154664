-- A call of a function of the face, as its caller sees it: what is given, what comes back, and what the lists hold when it has ended.
-- Assumes nothing.
use Rattle.std.specs.Prelude.{List, [], ℕ, take}
use base.Fml.{Lft}
use Rattle.std.specs.Borrow.{Bor, MutBor}
use Rattle.sets.specs.Lists.{sets_in, words_of}
use Rattle.definitions.specs.Table.{Table, table}
use Rattle.definitions.specs.Answer.{Outcome, outcome_of}
use Rattle.answers.specs.declared.answer.Answer.{Answer}

pub record Call : Type 0 where
  -- what is given: the atom count, the bytes of the bonds, and the list that is lent to be written into, empty where none is
  pub atoms : ℕ
  pub bonds : List ℕ
  pub lent : List ℕ
  -- what comes back
  pub number : ℕ
  pub count : ℕ
  -- what the two lists hold then
  pub bonds-after : List ℕ
  pub left : List ℕ

-- the table that a call asks about
abbrev pub table_in : Call → Table
table_in c = table c.atoms c.bonds

-- its answer: number, count and what is left in the lent list
abbrev pub answer_of : Call → Outcome (List ℕ)
answer_of c = outcome_of c.number c.count c.left

-- what it has given: as many bytes, or as many sets, as are counted, from the start of the lent list
abbrev pub bytes_given : Call → List ℕ
bytes_given c = take c.count c.left

abbrev pub sets_given : Call → List ℕ
sets_given c = sets_in (take (words_of c.count) c.left)

-- a call by what is given, the answer, and what the two lists hold then
abbrev pub call_of : ℕ → List ℕ → List ℕ → Answer → List ℕ → List ℕ → Call
call_of atoms bonds lent r bonds' left = record {
  atoms = atoms;
  bonds = bonds;
  lent = lent;
  number = r.number;
  count = r.count;
  bonds-after = bonds';
  left = left;
}

-- the arguments of the table check: an atom count and the bonds; of what writes a list: that list besides; of the walk round a ring: a set,
-- and two lists
abbrev pub OneList : Type 0
OneList = ℕ × (Bor (List ℕ) × Unit {0})

abbrev pub TwoLists : Type 0
TwoLists = ℕ × (Bor (List ℕ) × (MutBor (List ℕ) × Unit {0}))

abbrev pub SetAndLists : Type 0
SetAndLists = ℕ × (Bor (List ℕ) × (ℕ × (MutBor (List ℕ) × (MutBor (List ℕ) × Unit {0}))))

-- a postcondition of such functions: it speaks of lifetimes, the arguments, the answer, and the arguments at exit
abbrev pub Checking : Type 1
Checking = Lft × Unit {0} → OneList → Answer → OneList → Type 0

abbrev pub Writing : Type 1
Writing = Lft × (Lft × Unit {0}) → TwoLists → Answer → TwoLists → Type 0

abbrev pub Walking : Type 1
Walking = Lft × (Lft × (Lft × Unit {0})) → SetAndLists → Answer → SetAndLists → Type 0

-- the call has ended, and this postcondition holds of it
pub data Checked (post : Checking) : Call → Type 0 where
  checked : {κs : Lft × Unit {0}} {atoms atoms' : ℕ} {bonds bonds' : Bor (List ℕ)} {r : Answer}
      → post κs (atoms, (bonds, tt)) r (atoms', (bonds', tt))
      → Checked post (call_of atoms bonds.now [] r bonds'.now [])

pub data Called (post : Writing) : Call → Type 0 where
  called : {κs : Lft × (Lft × Unit {0})} {atoms atoms' : ℕ} {bonds bonds' : Bor (List ℕ)} {lent left : MutBor (List ℕ)} {r : Answer}
      → post κs (atoms, (bonds, (lent, tt))) r (atoms', (bonds', (left, tt)))
      → Called post (call_of atoms bonds.now lent.now r bonds'.now left.now)

-- one call with a set and two lists, seen as a call for the first list and as a call for the second
pub data CalledBoth (post : Walking) (s : ℕ) : Call → Call → Type 0 where
  called_both : {κs : Lft × (Lft × (Lft × Unit {0}))} {atoms atoms' s' : ℕ} {bonds bonds' : Bor (List ℕ)} {visited visited' crossed crossed' : MutBor (List ℕ)} {r : Answer}
      → post κs (atoms, (bonds, (s, (visited, (crossed, tt))))) r (atoms', (bonds', (s', (visited', (crossed', tt)))))
      → CalledBoth post s (call_of atoms bonds.now visited.now r bonds'.now visited'.now)
      (call_of atoms bonds.now crossed.now r bonds'.now crossed'.now)
