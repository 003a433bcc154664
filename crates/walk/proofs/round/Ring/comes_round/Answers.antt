-- The walk starts at the lower atom of the lowest bond, if the set has a bond of the table at all. Assumes nothing.
use mathlib.Core.Path.{◌≡◌, ap, ◌∙◌}
use Prim.Native.Nat.{ℕ}
use Rattle.sets.specs.Bond.{bits}
use Rattle.definitions.specs.Walk.{walk_start, walk_of}
use Rattle.walking.specs.Closing.{walks?}
use Rattle.walk.specs.Going.{table_of}
use Rattle.walk.proofs.Starting.{walks_none, start_is}
use Rattle.walk.proofs.round.Ring.comes_round.Goals as goal
use Rattle.walk.proofs.round.Ring.comes_round.Goals.{After-size}

pub returns-then-self-first-clause-told : goal.returns-then-self-first-clause-told
returns-then-self-first-clause-told c = walks_none c.args.self.now c.next-first.ensures c.if-self-first.true

-- where the walk starts
start : (c : After-size) → (c.min-start.result, c.next-first.result) ≡ walk_start (table_of c.args.self.now) (bits c.args.self.now.set)
start c =
    ap (λ (a : ℕ). (a, c.next-first.result)) c.min-start.ensures
    ∙ start_is c.args.self.now c.next-first.ensures c.if-self-first.false c.ends_of-ends.ensures

pub returns-clause-told : goal.returns-clause-told
unfolding walks?
returns-clause-told c = rw (← start (goal.at.returns-clause-told c).After-size, ← c.size.ensures.0) c.goes_round.ensures.told

pub returns-clause-noted : goal.returns-clause-noted
unfolding walk_of
returns-clause-noted c = rw (← start (goal.at.returns-clause-noted c).After-size, ← c.size.ensures.0) c.goes_round.ensures.noted
