-- Where one comes round and both lists have room, what was noted is copied into them. Assumes nothing.
use mathlib.Core.Path.{sym, ◌∙◌}
use native.Mathlib.Omega.{arith}
use borrow.Author.Tests.{ltb-true, ltb-false}
use Rattle.walk.proofs.Answering.{walked_refused, walked_short, walked_given}
use Rattle.walk.proofs.write_walk.Goals as goal
use Rattle.walk.proofs.write_walk.Goals.{then-ring_atoms-size, else-ring_atoms-size}

pub returns-then-not-closes : goal.returns-then-not-closes
returns-then-not-closes c = walked_refused _ _ _ c.comes_round-closes.ensures.told c.if-not-closes.true

pub returns-then-short : goal.returns-then-short
returns-then-short c =
    walked_short _ _ _ c.comes_round-closes.ensures.told c.if-not-closes.false c.size-size.ensures.0
    (elim c.if-ring_atoms-size.branch [
      | then-ring_atoms-size w ↦ λ i j. omega (arith, w.if-ring_atoms-size.true)
      | else-ring_atoms-size w ↦ λ i j. omega (arith, ltb-true _ _ (sym w.short-is ∙ c.if-short.true))
    ])

pub returns : goal.returns
returns c =
    let closes = c.comes_round-closes.ensures in
    let (all, few) = c.size-size.ensures in
    walked_given _ _ _ closes.told c.if-not-closes.false all
    (elim c.if-ring_atoms-size.branch [
      | then-ring_atoms-size w ↦ absurd (omega (arith, w.if-ring_atoms-size.true, ltb-false _ _ (sym w.short-is ∙ c.if-short.false)))
      | else-ring_atoms-size w ↦ (w.if-ring_atoms-size.false, ltb-false _ _ (sym w.short-is ∙ c.if-short.false))
    ]) _ closes.noted few few c.copy_from_slice.ensures.after c.copy_from_slice-2.ensures.after
