-- The start of the walk, at the lower atom of the lowest bond. Assumes nothing.
use mathlib.Core.Path.{◌≡◌, refl, sym, ap}
use mathlib.Core.Bool.{Bool, false, ◌&&◌}
use Prim.Native.Nat.{ℕ, zero, suc, ◌≤◌, ◌<◌, min}
use native.Mathlib.Omega.{arith}
use Rattle.sets.specs.Bits.{has, IsNext}
use Rattle.sets.specs.Bond.{bits}
use Rattle.definitions.specs.Table.{Table, bonds, tail, head, meets?, max_bonds}
use Rattle.definitions.specs.Ring.{degree}
use Rattle.definitions.specs.Walk.{onward, walk_start}
use Rattle.definitions.proofs.Lists.{count_none}
use Rattle.definitions.proofs.Tests.{some_of}
use Rattle.table.specs.Ends.{EndsOf}
use Rattle.table.specs.declared.ends.Ends.{Ends}
use Rattle.walking.specs.Closing.{closes?, walks?}
use Rattle.walking.proofs.Steps.{First, first_that_lem, first_unique}
use Rattle.walk.specs.Going.{table_of}
use Rattle.walk.specs.declared.round.Ring.{Ring}

-- a walk with no bond of the table closes nowhere
closes_nowhere : (M : Table) (s : ℕ) → ((k : ℕ) → k < bonds M → has s k ≡ false) → (a n : ℕ) (p : ℕ × ℕ) → closes? M s a n p ≡ false
unfolding closes? degree
closes_nowhere M s h a zero p = refl
closes_nowhere M s h a (suc n) p = rw (count_none _ (bonds M) (λ k l. ap (λ (x : Bool). x && meets? M (onward M s p).0 k) (h k l)))

module _ (r : Ring) {first : ℕ} (next : IsNext max_bonds (bits r.set) 0 first) where
  -- so where the ring has no bond of the table one does not come round
  pub walks_none : bonds (table_of r) ≤ first → false ≡ walks? (table_of r) (bits r.set)
  unfolding walks?
  walks_none h = sym (closes_nowhere (table_of r) (bits r.set) (λ k l. next.none k (omega arith) (omega arith)) _ _ _)

  -- and where it has one, the walk is from the lower atom of the first
  pub start_is : first < bonds (table_of r) → {e : Ends} → EndsOf r.bonds.now first e → (min e.tail e.head, first) ≡ walk_start (table_of r) (bits r.set)
  unfolding walk_start
  start_is within ends =
      let (tail-is, head-is) = ends.bond within in
      let passes = next.member (omega (arith, r.fits.few)) in
      let lowest : First (bonds (table_of r)) (has (bits r.set)) first = record { within = within; passes = passes; none = λ j l. next.none j (omega arith) l } in
      let is = first_unique lowest (first_that_lem _ _ (some_of _ (has (bits r.set)) first within passes)) in
      rw (tail-is, head-is) (ap (λ (k : ℕ). (min (tail (table_of r) k) (head (table_of r) k), k)) is)
