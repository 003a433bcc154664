-- Of the lines, those of the sizes below are written. Assumes nothing.
use native.Mathlib.Omega.{arith}
use Rattle.lent.proofs.Writing.{strings_none, strings_room, strings_more, strings_all}
use Rattle.labels.proofs.Counting.{lines_are}
use Rattle.labels.proofs.histogram.Histogram.put_lines.Goals as goal

pub loop-size-init : goal.loop-size-init
loop-size-init c = strings_none _ _ (omega (arith, c.requires))

pub put_line-requires : goal.put_line-requires
put_line-requires c = let h = c.args.self.now in
    (h.narrow, omega (arith, h.sizes, c.loop-size-test.true), strings_room _ c.loop-size.invariant c.loop-size-test.true (lines_are _ _ h.sizes) c.requires)

pub loop-size-preserved : goal.loop-size-preserved
loop-size-preserved c = strings_more _ c.loop-size.invariant c.put_line.ensures

pub returns : goal.returns
returns c = strings_all _ c.loop-size.invariant (omega arith) (lines_are _ _ c.args.self.now.sizes)
