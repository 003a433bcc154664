-- The sum is compared with each of the rings, two in a turn: those that are left decide. Assumes nothing.
use native.Mathlib.Omega.{arith}
use Rattle.combining.proofs.Combining.{pair_two, left_broken, left_more, left_one, left_all}
use Rattle.combining.proofs.is_ring.Goals as goal

pub at-requires : goal.at-requires
at-requires c = let turn = c.in-Some.ensures.steps.1 in omega (arith, pair_two c.loop-pair.invariant _ _ turn.0 turn.1)

pub at-requires-in-loop-pair : goal.at-requires-in-loop-pair
at-requires-in-loop-pair c = let turn = c.in-Some.ensures.steps.1 in omega (arith, pair_two c.loop-pair.invariant _ _ turn.0 turn.1)

pub returns-then-one-next : goal.returns-then-one-next
returns-then-one-next c = let turn = c.in-Some.ensures.steps.1 in
    left_broken c.loop-pair.invariant _ _ turn.0 turn.1 c.at.ensures c.at-in-loop-pair.ensures c.inside-one.ensures c.inside-next.ensures c.if-one-next.true

pub loop-pair-preserved : goal.loop-pair-preserved
loop-pair-preserved c = let turn = c.in-Some.ensures.steps.1 in
    left_more c.loop-pair.invariant _ _ turn.0 turn.1 c.at.ensures c.at-in-loop-pair.ensures c.inside-one.ensures c.inside-next.ensures c.if-one-next.false
    c.in-Some.ensures.steps.0

pub returns-then-sets_in-gt0 : goal.returns-then-sets_in-gt0
returns-then-sets_in-gt0 c = left_one c.loop-pair.invariant c.in-None.ensures.steps.1.0 (omega arith) c.at-then-sets_in-gt0.ensures c.inside.ensures

pub returns : goal.returns
returns c = left_all c.loop-pair.invariant c.in-None.ensures.steps.1.0 (omega arith)
