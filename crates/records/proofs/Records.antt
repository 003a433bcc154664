-- When a list starts with a whole record. Assumes nothing.
use mathlib.Core.Path.{◌≡◌, refl, sym}
use mathlib.Core.Bool.{true, false}
use mathlib.Core.List.{List}
use Prim.Native.Nat.{ℕ, ◌≤◌}
use lib.Dec.{eqb, leb}
use lib.ListN.{length, get_or}
use borrow.Author.Tests.{le-leb, leb-true, eq-eqb, eqb-true}
use Rattle.definitions.specs.Records.{length_at, head_bytes, record_bytes, atoms_tag, bonds_tag, whole?}
use Rattle.definitions.proofs.Tests.{by, and_both}

-- both tags, the one byte of field 10, and all bytes of field 11
pub record Whole (bs : List ℕ) : Type 0 where
  pub long : head_bytes ≤ length bs
  pub atoms : get_or bs 0 0 ≡ atoms_tag
  pub one : length_at bs 1 ≡ 1
  pub bonds : get_or bs 4 0 ≡ bonds_tag
  pub fits : record_bytes bs ≤ length bs

-- a list with these starts with a whole record
pub whole_by : {bs : List ℕ} → Whole bs → true ≡ whole? bs
unfolding whole?
whole_by {bs} w =
    rw (le-leb _ _ w.long, eq-eqb _ _ w.atoms, eq-eqb _ _ w.one, eq-eqb _ _ w.bonds, le-leb _ _ w.fits) refl

-- a whole record has them
whole_has : (bs : List ℕ) → whole? bs ≡ true → Whole bs
unfolding whole?
whole_has bs e =
    let a = and_both (leb head_bytes (length bs)) _ e in
    let b = and_both (eqb (get_or bs 0 0) atoms_tag) _ a.1 in
    let c = and_both (eqb (length_at bs 1) 1) _ b.1 in
    let d = and_both (eqb (get_or bs 4 0) bonds_tag) _ c.1 in
    record { long = leb-true _ _ a.0; atoms = eqb-true _ _ b.0; one = eqb-true _ _ c.0; bonds = eqb-true _ _ d.0; fits = leb-true _ _ d.1 }

-- so where one is missing there is no whole record
pub whole_not : (bs : List ℕ) → (Whole bs → ⊥) → false ≡ whole? bs
whole_not bs f = by (whole? bs) (λ e. absurd (f (whole_has bs e))) sym

-- a whole record lies within the list
pub whole-fits : (bs : List ℕ) → whole? bs ≡ true → record_bytes bs ≤ length bs
whole-fits bs e = (whole_has bs e).fits
