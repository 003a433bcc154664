-- The members taken so far have the number at their places. Assumes nothing.
use Prim.Native.Nat.{◌<◌}
use native.Mathlib.Omega.{arith}
use lib.ListN.{length}
use borrow.Author.Rules.{rules}
use Rattle.sets.proofs.Machine.{ring-lt}
use Rattle.sets.proofs.Upward.{turn_of, turns_done}
use Rattle.basis.proofs.Writing.{marked_more, marked_all}
use Rattle.basis.proofs.assembly.number_members.Goals as goal
use Rattle.basis.proofs.assembly.number_members.Goals.{In-Some}

-- a member has a place in the list
inside : (c : In-Some) → c.in-Some.i < length c.loop-i.out
inside c =
    let turn = turn_of _ _ _ _ _ _ c.into_iter-i-iterator.ensures.into_iter_gives c.loop-i.yielded_by c.next.ensures.steps c.in-Some.is in
    omega (arith, c.requires c.in-Some.i turn.member, c.loop-i.invariant.long)

pub bounds-out-i : goal.bounds-out-i
bounds-out-i c = inside (goal.at.bounds-out-i c).In-Some

pub loop-i-preserved : goal.loop-i-preserved
loop-i-preserved c = marked_more c.loop-i.invariant (inside (goal.at.loop-i-preserved c).In-Some)

pub returns : goal.returns
returns c =
    marked_all c.loop-i.invariant (ring-lt c.args.members (search rules))
    (turns_done _ _ _ _ _ _ c.into_iter-i-iterator.ensures.into_iter_gives c.loop-i.yielded_by c.next.ensures.steps c.in-None.is)
