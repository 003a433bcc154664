-- `sets::word::next` meets its contract: the trailing zeros of the word shifted down. Assumes nothing.
use native.Mathlib.Omega.{arith}
use borrow.Author.Rules.{rules}
use Rattle.sets.proofs.Machine.{next_gone, next_found}
use Rattle.sets.proofs.word.next.Goals as goal

pub returns-then-rest-eq0 : goal.returns-then-rest-eq0
returns-then-rest-eq0 c = next_gone 64 c.args.w c.args.from (search rules)

pub returns-else-rest-eq0 : goal.returns-else-rest-eq0
returns-else-rest-eq0 c = next_found 64 c.args.w c.args.from (search rules) (omega arith)
