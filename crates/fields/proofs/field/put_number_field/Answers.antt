-- The head tells the bytes of the numbers, which follow it. Assumes nothing.
use mathlib.Core.Path.{sym}
use Rattle.fields.proofs.Tagging.{head-fits, content_fits, field_written}
use Rattle.fields.proofs.Bytes.{length-bytes_of_all}
use Rattle.fields.proofs.field.put_number_field.Goals as goal

pub put_head-requires : goal.put_head-requires
put_head-requires c = head-fits _ _ c.args.writer.now c.requires.1

pub put_numbers-requires : goal.put_numbers-requires
put_numbers-requires c = (c.requires.0, content_fits _ _ _ c.requires.1 (sym (length-bytes_of_all _ _)) c.put_head.ensures)

pub returns : goal.returns
returns c = field_written _ _ _ c.requires.1 (sym (length-bytes_of_all _ _)) c.put_head.ensures c.put_numbers.ensures
