-- `sets::word::put` meets its contract: a shifted 1 is a power where it fits. Assumes nothing.
use mathlib.Core.Path.{sym, ap, ◌∙◌}
use borrow.Author.Rules.{rules}
use lib.Bits.{bit_or}
use Rattle.sets.specs.Bits.{with}
use Rattle.sets.proofs.Machine.{one_shl, put_below, put_above}
use Rattle.sets.proofs.word.put.Goals as goal

pub returns-then-k-lt-SIZE : goal.returns-then-k-lt-SIZE
unfolding with
returns-then-k-lt-SIZE c = ap (bit_or c.args.w) (one_shl 64 c.args.k (search rules)) ∙ sym (put_below 64 c.args.w c.args.k (search rules))

pub returns-else-k-lt-SIZE : goal.returns-else-k-lt-SIZE
returns-else-k-lt-SIZE c = sym (put_above 64 c.args.w c.args.k (search rules))
