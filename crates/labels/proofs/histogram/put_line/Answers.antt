-- Nothing, or one byte and the count after it. Assumes nothing.
use mathlib.Core.Path.{◌≡◌, sym}
use native.Mathlib.Omega.{arith}
use Rattle.lent.proofs.Writing.{writes_none, writes_as}
use Rattle.labels.proofs.Counting.{line-none, line-some, length-line-some}
use Rattle.labels.proofs.histogram.put_line.Goals as goal

pub put_tagged-requires : goal.put_tagged-requires
put_tagged-requires c = let a = c.args in
    (c.requires.0, omega (arith, c.requires.2, length-line-some a.width a.size (λ (e : a.count ≡ 0). omega arith)))

pub returns-then-count-gt0 : goal.returns-then-count-gt0
returns-then-count-gt0 c = writes_as c.put_tagged.ensures (sym (line-some _ _ (λ (e : c.args.count ≡ 0). omega arith)))

pub returns-else-count-gt0 : goal.returns-else-count-gt0
returns-else-count-gt0 c = let none : c.args.count ≡ 0 = omega arith in
    writes_as (writes_none _ (omega (arith, c.requires.2))) (sym (line-none _ _ none))
