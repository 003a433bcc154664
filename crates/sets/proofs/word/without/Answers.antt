-- `sets::word::without` meets its contract: a shifted 1 is a power where it fits, and a word has no member above. Assumes nothing.
use mathlib.Core.Path.{sym}
use borrow.Author.Rules.{rules}
use Rattle.sets.specs.Bits.{without}
use Rattle.sets.proofs.Laws.{has_above}
use Rattle.sets.proofs.Size.{without-same}
use Rattle.sets.proofs.Machine.{one_shl}
use Rattle.sets.proofs.word.without.Goals as goal

pub returns-then-k-lt-SIZE : goal.returns-then-k-lt-SIZE
unfolding without
returns-then-k-lt-SIZE c = rw (one_shl 64 c.args.k (search rules))

pub returns-else-k-lt-SIZE : goal.returns-else-k-lt-SIZE
returns-else-k-lt-SIZE c = sym (without-same c.args.w c.args.k (has_above 64 c.args.k (search rules) (search rules)))
