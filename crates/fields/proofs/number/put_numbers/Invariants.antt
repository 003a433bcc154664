-- Of the numbers' bytes, those of the first ones are written. Assumes nothing.
use lib.ListN.{get_or}
use Rattle.definitions.specs.Search.{gather}
use Rattle.definitions.specs.Label.{bytes_of}
use Rattle.lent.specs.Writes.{Writes}
use Rattle.fields.proofs.number.put_numbers.Given as goal

abbrev pub invariant-loop-number : goal.invariant-loop-number
invariant-loop-number l = Writes (gather l.number-index (λ k. bytes_of l.width (get_or l.numbers k 0))) l.initial.writer l.writer
