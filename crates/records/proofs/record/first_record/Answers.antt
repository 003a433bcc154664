-- The pattern has the two tags and the one byte, and the rest of the list the bond bytes. Assumes nothing.
use mathlib.Core.Path.{refl, ap, ◌∙◌}
use Prim.Native.Nat.{ℕ}
use native.Mathlib.Omega.{arith}
use lib.ListN.{length-take, length-drop}
use Rattle.std.specs.Option.{is_some}
use Rattle.records.proofs.Records.{whole_by, whole_not}
use Rattle.records.proofs.record.first_record.Goals as goal

pub returns-in_default-clause-whole : goal.returns-in_default-clause-whole
returns-in_default-clause-whole c = whole_not _ (λ w. grind arith)

pub returns-in_err-bonds-clause-whole : goal.returns-in_err-bonds-clause-whole
returns-in_err-bonds-clause-whole c = let r = c.from_residual.ensures in ap is_some r ∙ whole_not _ (λ w. omega (arith, w.fits, c.in_err-bonds.ensures.cases, length-drop {A = ℕ}, length-take {A = ℕ}))

pub returns-clause-whole : goal.returns-clause-whole
returns-clause-whole c = whole_by (record { long = omega arith; atoms = omega arith; one = omega arith; bonds = omega arith; fits = omega (arith, c.in_ok-bonds.ensures.cases, length-drop {A = ℕ}, length-take {A = ℕ}) })

pub returns-clause-atoms : goal.returns-clause-atoms
returns-clause-atoms c = refl
