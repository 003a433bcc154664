-- The word of a set is the set. Assumes nothing.
use mathlib.Core.Path.{◌≡◌, ap, ◌∙◌}
use lib.ListN.{length}
use Rattle.sets.specs.Lists.{words}
use Rattle.sets.proofs.OneWord.{one_value}
use Rattle.definitions.specs.Label.{bytes_of, set_bytes}
use Rattle.lent.proofs.Writing.{writes_as}
use borrow.Author.Rules.{rules}
use Rattle.sidecar.proofs.put_set.Goals as goal

pub returns : goal.returns
returns c = let long : length c.words-words.result ≡ words = search rules in
    writes_as c.put_number.ensures (ap (bytes_of set_bytes) (one_value _ long ∙ c.words-words.ensures))
