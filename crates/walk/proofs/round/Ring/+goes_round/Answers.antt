-- Each place is noted before the next is looked for, and the walk goes on with one bond less to go. Assumes nothing.
use mathlib.Core.Path.{refl}
use Prim.Native.Nat.{ℕ}
use native.Mathlib.Nat.{pos_of_ne-zero}
use native.Mathlib.Omega.{arith}
use Rattle.walking.specs.Closing.{closes?}
use Rattle.walk.proofs.Stepping.{Step, told_none, told_last, told_more, noted_last, noted_more, standing_next}
use Rattle.walk.proofs.round.Ring.+goes_round.Goals as goal
use Rattle.walk.proofs.round.Ring.+goes_round.Goals.{After-other_bond}

pub returns-then-at-eq0-clause-told : goal.returns-then-at-eq0-clause-told
unfolding closes?
returns-then-at-eq0-clause-told t c = rw c.if-at-eq0.true refl

-- the atom to which the walk comes
step : (t : ℕ) (c : After-other_bond t) → Step c.args.self.now c.args.at c.other_atom-atom.result
step t c = record { from = c.requires; some = c.if-at-eq0.false; atom = c.other_atom-atom.ensures }

pub returns-in_default-clause-told : goal.returns-in_default-clause-told
returns-in_default-clause-told t c = told_none (step t (goal.at.returns-in_default-clause-told t c).After-other_bond) _ c.in_default.ensures

pub returns-then-atom-at-clause-told : goal.returns-then-atom-at-clause-told
returns-then-atom-at-clause-told t c = told_last (step t (goal.at.returns-then-atom-at-clause-told t c).After-other_bond) c.in-Some.ensures c.if-atom-at.true

pub returns-then-atom-at-clause-noted : goal.returns-then-atom-at-clause-noted
returns-then-atom-at-clause-noted t c = noted_last (step t (goal.at.returns-then-atom-at-clause-noted t c).After-other_bond) c.in-Some.ensures _

pub goes_round-requires : goal.goes_round-requires
goes_round-requires t c = (omega (arith, pos_of_ne-zero c.if-at-eq0.false), standing_next (step t (goal.at.goes_round-requires t c).After-other_bond) c.in-Some.ensures)

pub returns-clause-told : goal.returns-clause-told
returns-clause-told t c = told_more (step t (goal.at.returns-clause-told t c).After-other_bond) c.in-Some.ensures c.if-atom-at.false c.goes_round.ensures.told

pub returns-clause-noted : goal.returns-clause-noted
returns-clause-noted t c = noted_more (step t (goal.at.returns-clause-noted t c).After-other_bond) c.in-Some.ensures _ c.goes_round.ensures.noted
