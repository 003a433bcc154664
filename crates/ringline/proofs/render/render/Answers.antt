-- The two cases of the whole text. Assumes nothing.
use native.Mathlib.Omega.{arith}
use borrow.Author.Rules.{rules}
use Rattle.definitions.specs.Ringline.{ringline}
use Rattle.lent.proofs.Writing.{writes_as, writes_more}
use Rattle.ringline.proofs.Printing.{ringline-long, ringline-lines, Starts, writes_start}
use Rattle.ringline.proofs.render.render.Goals as goal

pub returns-then-input-gt-MAX_INPUT : goal.returns-then-input-gt-MAX_INPUT
returns-then-input-gt-MAX_INPUT c =
    let input = c.args.input.now in
    let written : Starts c.bytes.new.self (ringline input) = writes_start c.new-writer.ensures.start (writes_as c.bytes.ensures (ringline-long input (omega arith))) in
    search (rules, written)

pub returns : goal.returns
returns c =
    let input = c.args.input.now in
    let written : Starts c.put_lines.new.writer (ringline input) =
    writes_start c.new-writer.ensures.start (writes_as (writes_more c.bytes-2.ensures c.put_lines.ensures) (ringline-lines input (omega arith))) in
    search (rules, written)
