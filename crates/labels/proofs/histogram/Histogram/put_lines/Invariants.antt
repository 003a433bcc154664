-- Of the lines, those of the sizes below are written. Assumes nothing.
use lib.ListN.{get_or}
use Rattle.definitions.specs.Search.{gather}
use Rattle.labels.specs.Sizes.{line}
use Rattle.lent.specs.Writes.{Writes}
use Rattle.labels.proofs.histogram.Histogram.put_lines.Given as goal

abbrev pub invariant-loop-size : goal.invariant-loop-size
invariant-loop-size l = Writes (gather l.size (λ z. line l.self.width z (get_or l.count-items z 0))) l.initial.writer l.writer
