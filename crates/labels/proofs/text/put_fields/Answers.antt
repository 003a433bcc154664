-- Each field is written after the one before it. Assumes nothing.
use mathlib.Core.Path.{◌≡◌}
use borrow.Author.Rules.{rules}
use Rattle.definitions.specs.Answer.{over}
use Rattle.lent.proofs.Writing.{writes_more, writes_over}
use Rattle.labels.specs.Sizes.{lines}
use Rattle.labels.specs.Text.{fields_of}
use Rattle.labels.proofs.text.put_fields.Goals as goal

pub returns : goal.returns
returns c =
    let a = c.args in
    let written : c.put_number_field-2.new.writer.out.now ≡ over (fields_of a.frerejacque (lines a.rings.now.width a.rings.now.counts.now) (lines a.smallest.now.width a.smallest.now.counts.now) a.pairs.now) a.out.now =
    writes_over c.new-writer.ensures.start c.new-writer.ensures.list
    (writes_more (rw c.byte.ensures at c.put_number_field.ensures)
    (writes_more (rw c.byte-2.ensures at c.put_field.ensures)
    (writes_more (rw c.byte-3.ensures at c.put_field-2.ensures) (rw c.byte-4.ensures at c.put_number_field-2.ensures)))) in
    search (rules, written)
