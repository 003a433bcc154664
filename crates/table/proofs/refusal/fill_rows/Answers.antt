-- A search: before each turn each row holds the bonds tried so far that meet its atom, and none of these has the two atoms of another.
-- Assumes nothing.
use mathlib.Core.Path.{ap}
use mathlib.Core.Bool.{Bool, cond}
use Rattle.definitions.specs.Table.{TWICE}
use Rattle.definitions.proofs.Tests.{some-none, some_more, some-found}
use Rattle.table.proofs.Fitting.{ends-inside}
use Rattle.table.proofs.Rowing.{rowed_more}
use Rattle.table.proofs.Doubling.{rowed_seen}
use Rattle.table.proofs.refusal.fill_rows.Goals as goal

pub loop-k-init : goal.loop-k-init
loop-k-init c = (c.requires.2, some-none _)

pub returns-then-meets : goal.returns-then-meets
returns-then-meets c =
    let (a, b) = ends-inside c.requires.0 c.loop-k-test.true c.ends_of-ends.ensures in
    let seen = rowed_seen c.loop-k.invariant.0 c.requires.1 c.loop-k-test.true a b c.at-first.ensures c.at-other.ensures c.meets.ensures in
    record { twice = ap (λ (b : Bool). cond b TWICE 0) (some-found _ c.loop-k-test.true seen c.if-meets.true); filled = tt }

-- the rows share a bond where the pair of atoms is seen before
pub loop-k-preserved : goal.loop-k-preserved
loop-k-preserved c =
    let (rowed, none) = c.loop-k.invariant in
    let (a, b) = ends-inside c.requires.0 c.loop-k-test.true c.ends_of-ends.ensures in
    let seen = rowed_seen rowed c.requires.1 c.loop-k-test.true a b c.at-first.ensures c.at-other.ensures c.meets.ensures in (
      rowed_more rowed c.requires.0 c.loop-k-test.true a b c.at-first.ensures
          c.at-other.ensures c.with.ensures c.put_at.ensures c.with-in-loop-k.ensures c.put_at-in-loop-k.ensures,
      some_more _ none seen c.if-meets.false,
    )
