-- Before each turn the bonds below k are tried, and the rings of the closure bonds among them are in the array. Assumes nothing.
use Prim.Native.Nat.{◌<◌}
use native.Mathlib.Omega.{arith}
use Rattle.sets.proofs.Lists.{sets-blank}
use Rattle.definitions.specs.Table.{table, tail, head, max_bonds}
use Rattle.definitions.proofs.Refusals.{Valid, accepted}
use Rattle.table.proofs.Fitting.{valid_fitting, EndAt, ends-inside}
use Rattle.basis.proofs.Leading.{climbed_low}
use Rattle.basis.proofs.Trying.{tried_none, climbs_reached, tried_settled, tried_turn, tried_all}
use borrow.Author.Rules.{rules}
use Rattle.basis.proofs.basis.basis_of.Goals as goal
use Rattle.basis.proofs.basis.basis_of.Goals.{In_ok-accept, After-ends_of-ends, then-one-other, else-one-other}

-- an accepted table is valid
valid : (c : In_ok-accept) → Valid (table c.args.atoms c.args.bonds.now)
valid c = (accepted (table c.args.atoms c.args.bonds.now)).0 (omega (arith, c.accept.ensures))

-- the ends of the bond are atoms
ends : (c : After-ends_of-ends) → let M = table c.args.atoms c.args.bonds.now in EndAt c.ends_of-ends.result.tail (tail M c.loop-k.k) × EndAt c.ends_of-ends.result.head (head M c.loop-k.k)
ends c = ends-inside (valid_fitting ((accepted (table c.args.atoms c.args.bonds.now)).0 (omega (arith, c.accept.ensures)))) c.loop-k-test.true c.ends_of-ends.ensures

pub loop-k-init : goal.loop-k-init
loop-k-init c = let v = valid (goal.at.loop-k-init c).In_ok-accept in
    let start = c.apart-fragments.ensures in
    tried_none _ _ (search rules) (λ a h. start.own a (omega (arith, v.few-atoms))) start.ways (sets-blank max_bonds)

pub climb_from-one-requires : goal.climb_from-one-requires
climb_from-one-requires c = let at = goal.at.climb_from-one-requires c in (ends at.After-ends_of-ends).0.1

pub settle-requires : goal.settle-requires
settle-requires c = let at = goal.at.settle-requires c in
    (climbed_low c.climb_from-one.ensures.climbed, (ends at.After-ends_of-ends).0.1)

pub climb_from-other-requires : goal.climb_from-other-requires
climb_from-other-requires c = let at = goal.at.climb_from-other-requires c in (ends at.After-ends_of-ends).1.1

pub settle-requires-in-loop-k : goal.settle-requires-in-loop-k
settle-requires-in-loop-k c = let at = goal.at.settle-requires-in-loop-k c in
    (climbed_low c.climb_from-other.ensures.climbed, (ends at.After-ends_of-ends).1.1)

pub put_at-requires : goal.put_at-requires
put_at-requires c = let v = valid (goal.at.put_at-requires c).In_ok-accept in
    omega (arith, v.few-bonds, c.loop-k.invariant.found.few, c.loop-k.invariant.found.long)

pub loop-k-preserved : goal.loop-k-preserved
loop-k-preserved c =
    let at = goal.at.loop-k-preserved c in
    let v = valid at.In_ok-accept in
    let e = ends at.After-ends_of-ends in
    let M = table c.args.atoms c.args.bonds.now in
    let low : (c.ends_of-ends.result.tail < M.atoms) × (c.ends_of-ends.result.head < M.atoms) =
    omega (arith, e.0.0, e.1.0, v.inside c.loop-k.k c.loop-k-test.true) in
    let one = climbs_reached c.loop-k.invariant low.0 c.climb_from-one.ensures in
    let once = tried_settled c.loop-k.invariant v low.0 one c.settle.ensures.lower c.settle.ensures.ways in
    let other = climbs_reached once.0 low.1 c.climb_from-other.ensures in
    let twice = tried_settled once.0 v low.1 other c.settle-in-loop-k.ensures.lower c.settle-in-loop-k.ensures.ways in
    let both =
    tried_turn twice.0 v c.loop-k-test.true e.0.0 e.1.0
    (twice.1 _ _ _ low.0 (once.1 _ _ _ low.0 one)) (twice.1 _ _ _ low.1 other) c.sum.ensures c.with-round.ensures in
    elim c.if-one-other.branch [
      | then-one-other w ↦ rw (w.fragments-is, w.basis-is, w.put_at.ensures.sets) (both.0 w.if-one-other.true)
      | else-one-other w ↦ rw (w.fragments-is, w.basis-is, w.join.ensures.lower, w.join.ensures.ways) (both.1 w.if-one-other.false)
    ]

pub returns : goal.returns
returns c = record { number = c.in_ok-accept.ensures; rings = tried_all (valid (goal.at.returns c).In_ok-accept) c.loop-k.invariant c.loop-k-test.false }
