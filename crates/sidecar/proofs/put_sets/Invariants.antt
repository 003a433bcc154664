-- Of the sets' bytes, those of the first ones are written. Assumes nothing.
use lib.ListN.{get_or}
use Rattle.sets.specs.Lists.{sets_in}
use Rattle.definitions.specs.Search.{gather}
use Rattle.definitions.specs.Label.{bytes_of, set_bytes}
use Rattle.lent.specs.Writes.{Writes}
use Rattle.sidecar.proofs.put_sets.Given as goal

abbrev pub invariant-loop-i : goal.invariant-loop-i
invariant-loop-i l = Writes (gather l.i (λ k. bytes_of set_bytes (get_or (sets_in l.sets) k 0))) l.initial.writer l.writer
