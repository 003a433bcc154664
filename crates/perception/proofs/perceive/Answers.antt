-- The refusals are tried in order, and the sums of one assembly after another are added up. Assumes nothing.
use mathlib.Core.Path.{◌≡◌, sym, ap, ◌∙◌}
use mathlib.Core.List.{[], ◌∷◌, map}
use native.Mathlib.Omega.{arith}
use lib.ListN.{length, get_or, length-append}
use Rattle.sets.specs.Bits.{size}
use Rattle.sets.specs.Ring.{bits}
use Rattle.basis.proofs.Holding.{left_all, left_inside, left_at, left_next, left_none}
use Rattle.perception.proofs.Perceiving.{added_none, added_tangled, added_fits, added_more, added_untangled, added_all, perceives_refused, perceives_tangled, perceives_all}
use Rattle.perception.proofs.perceive.Goals as goal
use Rattle.perception.proofs.perceive.Goals.{After-size-rings}

pub returns-in_err-basis : goal.returns-in_err-basis
returns-in_err-basis c = perceives_refused _ _ c.in_err-basis.ensures c.from_residual.ensures.1

pub loop-members-init : goal.loop-members-init
loop-members-init c = (left_all _, added_none _ _)

-- what is found at a place is the size of the set of assembly a
told : (c : After-size-rings) → c.size-rings.result ≡ size (get_or (map bits c.into_iter-members-iterator.result.rest.now) (length c.loop-members.yielded) 0)
told c = c.size-rings.ensures.0 ∙ ap size (sym (left_at c.loop-members.invariant.0 c.in-Some.ensures.steps))

pub returns-then-rings-gt-MAX_ASSEMBLY : goal.returns-then-rings-gt-MAX_ASSEMBLY
returns-then-rings-gt-MAX_ASSEMBLY c =
    let same = c.into_iter-members-iterator.ensures.into_iter_gives.0 in
    perceives_tangled c.in_ok-basis.ensures c.assemblies_of-assemblies.ensures
    (rw same at (added_tangled c.loop-members.invariant.1 (left_inside c.loop-members.invariant.0 c.in-Some.ensures.steps)
    (told (goal.at.returns-then-rings-gt-MAX_ASSEMBLY c).After-size-rings) (omega arith)))

pub overflow_add-sums : goal.overflow_add-sums
overflow_add-sums c =
    omega (
      arith,
      added_fits c.loop-members.invariant.1 (left_inside c.loop-members.invariant.0 c.in-Some.ensures.steps)
          (told (goal.at.overflow_add-sums c).After-size-rings) (omega arith)
          (omega (arith, ap length c.into_iter-members-iterator.ensures.into_iter_gives.0, c.assemblies_of-assemblies.ensures.counted)),
    )

pub loop-members-preserved : goal.loop-members-preserved
loop-members-preserved c =
    let left = c.loop-members.invariant.0 in
    rw (length-append c.loop-members.yielded (c.in-Some.members ∷ [])) (
      left_next left c.in-Some.ensures.steps,
      added_more c.loop-members.invariant.1 (left_inside left c.in-Some.ensures.steps) (told (goal.at.loop-members-preserved c).After-size-rings) (omega arith),
    )

pub returns : goal.returns
returns c =
    let same = c.into_iter-members-iterator.ensures.into_iter_gives.0 in
    let end = left_none c.loop-members.invariant.0 c.in-None.ensures.steps.0 in
    perceives_all c.in_ok-basis.ensures c.assemblies_of-assemblies.ensures
    (rw same at (added_untangled c.loop-members.invariant.1 end)) (rw same at (added_all c.loop-members.invariant.1 end))
