-- Field 01 of a label: what its number is. Assumes nothing.
use Rattle.std.specs.Prelude.{◌≡◌, ℕ, ◌+◌, get_or}
use Rattle.definitions.specs.Table.{bonds}
use Rattle.definitions.specs.Fragment.{fragment_count}
use Rattle.foliocrane.specs.Call.{Call, table_in, bytes_given}

-- the number in the label that a call has given: the byte behind the field's tag and length
abbrev pub field_one : Call → ℕ
field_one c = get_or (bytes_given c) 3 0

-- c is a call for a label, and d one for the check of the same table
pub record FieldOne (c d : Call) : Type 0 where
  -- the number is bonds - atoms + fragments
  pub balance : let M = table_in c in field_one c + M.atoms ≡ bonds M + fragment_count M
  -- the check accepts the table too, and counts as many basis rings
  pub check_accepts : d.number ≡ 0
  pub check_counts : d.count ≡ field_one c
