-- The head tells the bytes of the lines, which follow it. Assumes nothing.
use Rattle.fields.proofs.Tagging.{head-fits, content_fits, field_written}
use Rattle.labels.proofs.histogram.Histogram.put_field.Goals as goal

pub put_head-requires : goal.put_head-requires
put_head-requires c = head-fits _ _ c.args.writer.now c.requires

pub put_lines-requires : goal.put_lines-requires
put_lines-requires c = content_fits _ _ _ c.requires c.args.self.now.long c.put_head.ensures

pub returns : goal.returns
returns c = field_written _ _ _ c.requires c.args.self.now.long c.put_head.ensures c.put_lines.ensures
