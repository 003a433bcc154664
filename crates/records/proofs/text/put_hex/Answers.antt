-- The library's hex, two digits a byte, stands over its part of the list. Assumes nothing.
use mathlib.Core.Path.{◌∙◌}
use native.Mathlib.Omega.{arith}
use borrow.Author.Rules.{rules}
use Rattle.records.proofs.Digits.{encoded-hex, length-hex}
use Rattle.records.proofs.Writing.{appended_part}
use Rattle.records.proofs.text.put_hex.Goals as goal

pub overflow_add-end : goal.overflow_add-end
overflow_add-end c = omega (arith, length-hex c.args.bytes.now, c.requires)

pub slice_bounds-encode_to_slice-end : goal.slice_bounds-encode_to_slice-end
slice_bounds-encode_to_slice-end c = omega (arith, length-hex c.args.bytes.now, c.requires)

pub returns : goal.returns
returns c =
    let bytes = c.args.bytes.now in
    record {
      room = c.requires;
      appended =
          appended_part c.args.writer.now.out.now (rw c.unwrap.ensures at c.encode_to_slice.ensures.written ∙ encoded-hex bytes (λ i. omega (arith, c.type_inv.bytes i)))
          (omega (arith, length-hex bytes)) (omega (arith, length-hex bytes));
      same = search rules;
    }
