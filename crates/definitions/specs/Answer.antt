-- What comes back: a number, 0 where nothing is refused and that of the refusal where something is; a count of what is given; and what is handed
-- back or left in what was lent. A refusal has count 0 and leaves what was lent as it was. Assumes nothing.
use Rattle.std.specs.Prelude.{Bool, true, ◌&&◌, not, cond, List, [], ◌∷◌, ◌++◌, ℕ, zero, suc, length, drop, leb}
use Rattle.sets.specs.Lists.{in_words}
use Rattle.definitions.specs.Table.{Table, first_of, table_tests, TANGLED, ROOM, NOTRING}
use Rattle.definitions.specs.Ring.{ring?}
use Rattle.definitions.specs.Assembly.{tangled?}

-- an answer with what it leaves, which may be a list, several lists or a value
pub record Outcome (A : Type 0) : Type 0 where
  pub number : ℕ
  pub count : ℕ
  pub left : A

abbrev pub outcome_of : {A : Type 0} → ℕ → ℕ → A → Outcome A
outcome_of n k l = record { number = n; count = k; left = l }

-- c is the refusal, or 0; n things are given, and this is then left, if only there is room; what was lent is left in every other case
unfoldable pub outcome : {A : Type 0} → ℕ → Bool → ℕ → A → A → Outcome A
outcome zero room n given lent = cond room (outcome_of 0 n given) (outcome_of ROOM 0 lent)
outcome (suc c) room n given lent = outcome_of (suc c) 0 lent

-- the items over the start of a list, the rest as it was
unfoldable pub over : List ℕ → List ℕ → List ℕ
over items l = items ++ drop (length items) l

-- items are written over the start of a lent list
unfoldable pub written : ℕ → List ℕ → List ℕ → Outcome (List ℕ)
written c items lent = outcome c (leb (length items) (length lent)) (length items) (over items lent) lent

-- sets are written as words over the start of a lent list, and the sets are counted
unfoldable pub written_sets : ℕ → List ℕ → List ℕ → Outcome (List ℕ)
written_sets c sets lent = outcome c (leb (length (in_words sets)) (length lent)) (length sets) (over (in_words sets) lent) lent

-- two lists of one length are written over the start of two lent ones, both or neither, and the length of one is counted
unfoldable pub written_both : ℕ → List ℕ × List ℕ → List ℕ × List ℕ → Outcome (List ℕ × List ℕ)
written_both c items lent =
    outcome c (leb (length items.0) (length lent.0) && leb (length items.1) (length lent.1)) (length items.0)
    (over items.0 lent.0, over items.1 lent.1)
    lent

-- nothing is lent, as by the table check: so many are counted, and 8 is never given
unfoldable pub counted : ℕ → ℕ → Outcome (List ℕ)
counted c n = outcome c true n [] []

-- the table's refusals, and after them that of an assembly with too many basis rings: for all rings, smallest basis and label
unfoldable pub refusal_of_rings : Table → ℕ
refusal_of_rings M = first_of (table_tests M ++ ((TANGLED, tangled? M) ∷ []))

-- the table's refusals, and after them that of a set which is no ring: for the walk round it
unfoldable pub refusal_of_walk : Table → ℕ → ℕ
refusal_of_walk M s = first_of (table_tests M ++ ((NOTRING, not (ring? M s)) ∷ []))
