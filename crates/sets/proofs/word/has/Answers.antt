-- `sets::word::has` meets its contract: a digit below 64 by a shift, and a word has no member above. Assumes nothing.
use mathlib.Core.Path.{sym, ◌∙◌}
use borrow.Author.Rules.{rules}
use borrow.Author.Tests.{le-ltb}
use Rattle.sets.proofs.Laws.{has_above}
use Rattle.sets.proofs.Machine.{test_shr}
use Rattle.sets.proofs.word.has.Goals as goal

pub returns-then-k-lt-SIZE : goal.returns-then-k-lt-SIZE
returns-then-k-lt-SIZE c = test_shr c.args.w c.args.k

pub returns-else-k-lt-SIZE : goal.returns-else-k-lt-SIZE
returns-else-k-lt-SIZE c = le-ltb c.args.k 64 (search rules) ∙ sym (has_above 64 c.args.k (search rules) (search rules))
