-- Demand 3: the label is the same for all numberings of a molecule, each byte of it, and so is a refusal. Assumes nothing.
use Rattle.std.specs.Prelude.{◌≡◌, ◌≢◌, ◌⊎◌, length}
use Rattle.definitions.specs.Table.{ROOM}
use Rattle.renumbering.specs.Renumbered.{Renumbered, InRange, Agree}
use Rattle.foliocrane.specs.Call.{Call, table_in, answer_of}

-- two calls for one molecule under two numberings, whose ends are in range, answer with the same number, count and bytes, whatever was lent,
-- if only the rooms are equal or neither was too small
abbrev pub SameLabel : Call → Call → Type 0
SameLabel c d =
    Renumbered (table_in c) (table_in d)
    → InRange (table_in c)
    → (length c.lent ≡ length d.lent) ⊎ ((c.number ≢ ROOM) × (d.number ≢ ROOM))
    → Agree (answer_of c) (answer_of d)
