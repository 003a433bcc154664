-- At each return the tests made so far have failed but the last: 1 to 3 are tests on numbers, and the laws of `Tried` tell the others.
-- Assumes nothing.
use mathlib.Core.Path.{sym}
use mathlib.Core.Logic.{inl, inr}
use native.Mathlib.Omega.{arith}
use Rattle.definitions.specs.Table.{table, seen_before?}
use Rattle.definitions.proofs.Refusals.{refused_odd, refused-atoms, refused-bonds}
use Rattle.table.proofs.Tried.{Tried, tried_numbers, tried_more, tried_found, tried_fitting, tried_two, tried_filled}
use Rattle.table.proofs.refusal.try_table.Goals as goal
use Rattle.table.proofs.refusal.try_table.Goals.{After-wrong_ends-ends, Else-ends, Else-ends-2}

-- the tests on numbers have failed
numbers : (c : After-wrong_ends-ends) → Tried (table c.args.atoms c.args.bonds.now) 3
numbers c = tried_numbers _ (omega arith)

inside : (c : Else-ends) → Tried (table c.args.atoms c.args.bonds.now) 4
inside c = tried_more (tried_numbers _ (omega arith)) c.wrong_ends-ends.ensures.outside c.if-ends.false

two : (c : Else-ends-2) → Tried (table c.args.atoms c.args.bonds.now) 5
two c = tried_more (tried_more (tried_numbers _ (omega arith)) c.wrong_ends-ends.ensures.outside c.if-ends.false) c.wrong_ends-ends.ensures.same c.if-ends-2.false

pub returns-then-bonds-eq1 : goal.returns-then-bonds-eq1
returns-then-bonds-eq1 c = record { number = sym ((refused_odd _).1 (omega arith)); accepted = tt }

pub returns-then-atoms-eq0 : goal.returns-then-atoms-eq0
returns-then-atoms-eq0 c = record { number = sym ((refused-atoms _).1 (omega arith, inl (omega arith))); accepted = tt }

pub returns-then-atoms : goal.returns-then-atoms
returns-then-atoms c = record { number = sym ((refused-atoms _).1 (omega arith, inr (omega arith))); accepted = tt }

pub returns-then-bonds-gt-MAX_BONDS : goal.returns-then-bonds-gt-MAX_BONDS
returns-then-bonds-gt-MAX_BONDS c = record { number = sym ((refused-bonds _).1 (omega arith, omega arith, omega arith)); accepted = tt }

pub returns-then-ends : goal.returns-then-ends
returns-then-ends c =
    record { number = tried_found (numbers (goal.at.returns-then-ends c).After-wrong_ends-ends) c.wrong_ends-ends.ensures.outside c.if-ends.true; accepted = tt }

pub returns-then-ends-2 : goal.returns-then-ends-2
returns-then-ends-2 c = record { number = tried_found (inside (goal.at.returns-then-ends-2 c).Else-ends) c.wrong_ends-ends.ensures.same c.if-ends-2.true; accepted = tt }

pub fill_rows-requires : goal.fill_rows-requires
fill_rows-requires c = (tried_fitting (inside (goal.at.fill_rows-requires c).Else-ends), tried_two (two (goal.at.fill_rows-requires c).Else-ends-2), c.requires)

pub returns : goal.returns
unfolding seen_before?
returns c = record { number = tried_filled (two (goal.at.returns c).Else-ends-2) c.fill_rows.ensures.twice; accepted = c.fill_rows.ensures.filled }
