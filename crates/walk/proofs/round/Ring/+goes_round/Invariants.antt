-- Each place is noted before the next is looked for, and the walk goes on with one bond less to go. Assumes nothing.
use Rattle.walk.proofs.round.Ring.+goes_round.Given as goal

-- so many bonds are left
abbrev pub decreases-goes_round : goal.decreases-goes_round
decreases-goes_round l = l.at.left
