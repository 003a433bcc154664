-- A list of zeros holds the rows before the first bond. Assumes nothing.
use Rattle.table.proofs.Rowing.{rowed-none}
use Rattle.table.proofs.rows.rows_of.Goals as goal

pub try_table-requires : goal.try_table-requires
try_table-requires c = rowed-none _
