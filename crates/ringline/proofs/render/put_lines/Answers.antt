-- What is printed so far and the lines of what is left are the lines of the input; each record takes bytes of what is left.
-- Assumes nothing.
use mathlib.Core.Path.{sym, ap, ap₂, ◌∙◌}
use mathlib.Core.List.{List}
use Prim.Native.Nat.{ℕ, ◌-◌}
use native.Mathlib.Omega.{arith}
use lib.ListN.{length, length-take, length-drop}
use borrow.Author.Tests.{eqb-true, eqb-false}
use Rattle.definitions.specs.Table.{table}
use Rattle.definitions.specs.Ringline.{record_line}
use Rattle.lent.proofs.Writing.{writes_as}
use Rattle.records.proofs.Records.{whole-fits}
use Rattle.records.proofs.Digits.{decimal-most}
use Rattle.ringline.proofs.Writing.{length-end_line, length-frame_line}
use Rattle.ringline.proofs.Printing.{printed_few, printed_more, printed_end, printed_frame}
use Rattle.ringline.proofs.render.put_lines.Goals as goal

pub put_record-requires : goal.put_record-requires
put_record-requires c =
    let p = c.loop-first.invariant in
    let first = c.in-Some.ensures in
    (printed_few p (omega arith), omega (arith, p.room, whole-fits _ (sym first.whole), ap length first.bonds, length-take {A = ℕ}))

pub loop-first-smaller : goal.loop-first-smaller
loop-first-smaller c =
    let first = c.in-Some.ensures in
    omega (arith, whole-fits _ (sym first.whole), ap length first.rest, length-drop {A = ℕ})

pub loop-first-preserved : goal.loop-first-preserved
loop-first-preserved c =
    let first = c.in-Some.ensures in
    let put = c.put_record.ensures in
    printed_more c.loop-first.invariant (sym first.whole) first.rest
    (writes_as put.line (ap₂ (λ (a : ℕ) (bs : List ℕ). record_line c.loop-first.number (table a bs)) first.atoms first.bonds))
    (omega (arith, put.upper_bound, ap length first.bonds, length-take {A = ℕ}))

pub put_end-requires : goal.put_end-requires
put_end-requires c =
    let p = c.loop-first.invariant in
    let n = c.loop-first.number - 1 in
    omega (arith, p.room, length-end_line n, decimal-most 4 n (omega arith) (omega (arith, printed_few p (omega arith))))

pub put_frame-requires : goal.put_frame-requires
put_frame-requires c =
    let p = c.loop-first.invariant in
    let n = c.loop-first.number in
    omega (arith, p.room, length-frame_line n, decimal-most 4 n (omega arith) (printed_few p (omega arith)))

pub returns-then-is_empty : goal.returns-then-is_empty
returns-then-is_empty c = printed_end c.loop-first.invariant (eqb-true _ _ (sym c.is_empty.ensures ∙ c.if-is_empty.true)) c.put_end.ensures

pub returns-else-is_empty : goal.returns-else-is_empty
returns-else-is_empty c = printed_frame c.loop-first.invariant (eqb-false _ _ (sym c.is_empty.ensures ∙ c.if-is_empty.false)) (sym c.in_default.ensures.whole) c.put_frame.ensures
