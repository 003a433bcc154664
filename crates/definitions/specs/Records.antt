-- The records of a stream: in a field 10 (hex) of one byte the atom count, and in a field 11 the bytes of the bonds. Assumes nothing.
use Rattle.std.specs.Prelude.{Bool, ◌&&◌, List, ℕ, ◌+◌, ◌*◌, length, get_or, take, drop, eqb, leb}
use Rattle.definitions.specs.Table.{Table, table}

-- the tags of a record's fields
abbrev pub atoms_tag : ℕ
atoms_tag = 0x10

abbrev pub bonds_tag : ℕ
bonds_tag = 0x11

-- the length that the two bytes at a place give
abbrev pub length_at : List ℕ → ℕ → ℕ
length_at bs at = get_or bs at 0 * 256 + get_or bs (at + 1) 0

-- the bytes of a record before those of its bonds
abbrev pub head_bytes : ℕ
head_bytes = 7

-- the bytes of the record that a list starts with
abbrev pub record_bytes : List ℕ → ℕ
record_bytes bs = head_bytes + length_at bs 5

-- a list starts with a whole record: both tags, the one byte of field 10, and all bytes of field 11
unfoldable pub whole? : List ℕ → Bool
whole? bs =
    leb head_bytes (length bs)
    && (eqb (get_or bs 0 0) atoms_tag && (eqb (length_at bs 1) 1 && (eqb (get_or bs 4 0) bonds_tag && leb (record_bytes bs) (length bs))))

-- the table of the record that a list starts with
abbrev pub record_table : List ℕ → Table
record_table bs = table (get_or bs 3 0) (take (length_at bs 5) (drop head_bytes bs))
