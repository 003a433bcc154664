-- The digits that are printed are the decimal of the definition. Assumes nothing.
use mathlib.Core.Path.{ap, ◌∙◌}
use native.Mathlib.Omega.{arith}
use lib.ListN.{length}
use Rattle.lent.proofs.Writing.{writes_as}
use Rattle.records.proofs.Digits.{printed_decimal}
use Rattle.records.proofs.text.put_decimal.Goals as goal

pub bytes-requires : goal.bytes-requires
bytes-requires c =
    omega (arith, ap length (c.as_bytes.ensures.value ∙ c.format.ensures.text ∙ printed_decimal c.args.number (omega arith)), c.requires)

pub returns : goal.returns
returns c = writes_as c.bytes.ensures (c.as_bytes.ensures.value ∙ c.format.ensures.text ∙ printed_decimal c.args.number (omega arith))
