-- The set of the word that is given is walked round. Assumes nothing.
use mathlib.Core.Path.{◌∙◌}
use Rattle.sets.proofs.OneWord.{single}
use Rattle.answers.proofs.Answers.{numbered}
use Rattle.foliocrane.proofs.foliocrane_ring_walk.Goals as goal

pub returns-clause-answer : goal.returns-clause-answer
returns-clause-answer c = numbered _ _ _ c.into.ensures (rw (c.of_words-ring.ensures ∙ single _) at c.ring_walk.ensures.answer)
