-- The label has room, so what is told of it makes the record's line, which is short enough. Assumes nothing.
use mathlib.Core.Path.{ap}
use Prim.Native.Nat.{◌+◌, ◌*◌, ◌≤◌}
use native.Mathlib.Omega.{arith}
use lib.ListN.{length}
use lib.Seq.{length-take-le}
use borrow.Author.Rules.{rules}
use Rattle.definitions.specs.Table.{table}
use Rattle.definitions.specs.Records.{head_bytes}
use Rattle.definitions.specs.Ringline.{record_line}
use Rattle.lent.proofs.Writing.{writes_as}
use Rattle.ringline.proofs.Answering.{Replied, replied, line-most, label_within, label_line, refusal_line}
use Rattle.ringline.proofs.render.put_record.Goals as goal
use Rattle.ringline.proofs.render.put_record.Goals.{After-label}

-- what is told of the label
told : (c : After-label) → Replied (table c.args.given.atoms c.args.given.bonds.now) c.label.result c.label.new.out
told c = replied _ _ _ _ (search rules) c.label.ensures.answer

-- its line is short enough
short : (c : After-label) → let given = c.args.given in length (record_line c.args.number (table given.atoms given.bonds.now)) ≤ 7 * (head_bytes + length given.bonds.now)
short c = line-most c.args.number _ c.args.given.bonds.now c.requires.0 (told c)

pub slice_bounds-bytes-end : goal.slice_bounds-bytes-end
slice_bounds-bytes-end c = label_within (told (goal.at.slice_bounds-bytes-end c).After-label) c.in-Ok.is

pub slice_bounds-put_answer-end : goal.slice_bounds-put_answer-end
slice_bounds-put_answer-end c =
    let before = (goal.at.slice_bounds-put_answer-end c).After-label in
    omega (arith, length-take-le c.in-Ok.count c.label.new.out (label_within (told before) c.in-Ok.is))

pub put_answer-requires : goal.put_answer-requires
put_answer-requires c =
    let before = (goal.at.put_answer-requires c).After-label in
    omega (arith, ap length (label_line (told before) c.args.number c.in-Ok.is), short before)

pub put_answer-requires-in-Err : goal.put_answer-requires-in-Err
put_answer-requires-in-Err c =
    let before = (goal.at.put_answer-requires-in-Err c).After-label in
    omega (arith, ap length (refusal_line (told before) c.args.number c.in-Err.is), short before)

pub returns-in-Ok-clause-line : goal.returns-in-Ok-clause-line
returns-in-Ok-clause-line c =
    let before = (goal.at.returns-in-Ok-clause-line c).After-label in
    writes_as c.put_answer.ensures (label_line (told before) c.args.number c.in-Ok.is)

pub returns-in-Ok-clause-upper_bound : goal.returns-in-Ok-clause-upper_bound
returns-in-Ok-clause-upper_bound c =
    let before = (goal.at.returns-in-Ok-clause-upper_bound c).After-label in
    omega (arith, c.put_answer.ensures.appended.end, ap length (label_line (told before) c.args.number c.in-Ok.is), short before)

pub returns-in-Err-clause-line : goal.returns-in-Err-clause-line
returns-in-Err-clause-line c =
    let before = (goal.at.returns-in-Err-clause-line c).After-label in
    writes_as c.put_answer-in-Err.ensures (refusal_line (told before) c.args.number c.in-Err.is)

pub returns-in-Err-clause-upper_bound : goal.returns-in-Err-clause-upper_bound
returns-in-Err-clause-upper_bound c =
    let before = (goal.at.returns-in-Err-clause-upper_bound c).After-label in
    omega (arith, c.put_answer-in-Err.ensures.appended.end, ap length (refusal_line (told before) c.args.number c.in-Err.is), short before)
