-- The bytes of an accepted table fit the sets and the lists: its bonds are few, and each end is an atom below the limit. Assumes nothing.
use mathlib.Core.Path.{◌≡◌, ap}
use mathlib.Core.List.{List}
use Prim.Native.Nat.{ℕ, ◌+◌, ◌*◌, ◌/◌, ◌%◌, ◌≤◌, ◌<◌}
use native.Mathlib.Omega.{arith}
use lib.ListN.{length, get_or}
use lib.Dec.{eqb}
use borrow.Author.Tests.{eqb-true, eqb-false}
use Rattle.definitions.specs.Table.{Table, tail, head, max_atoms}
use Rattle.definitions.proofs.Tests.{by}
use Rattle.definitions.proofs.Refusals.{EvenBytes, FewBonds, AllInside, Valid}
use Rattle.table.specs.Ends.{bonds_alone, Fitting, EndsOf}
use Rattle.table.specs.declared.ends.Ends.{Ends}

-- a table whose bonds are few and name atoms below the count fits
pub inside_fitting : {M : Table} → EvenBytes M → M.atoms ≤ max_atoms → FewBonds M → AllInside M → Fitting M.bytes
inside_fitting {M} even few-atoms few-bonds inside = record { few = few-bonds; ends = ends }
  where
    ends : (i : ℕ) → i < length M.bytes → get_or M.bytes i 0 < max_atoms
    ends i h =
        let at = inside (i / 2) (omega arith) in
        by (eqb (i % 2) 0)
        (λ e. let q : 2 * (i / 2) ≡ i = omega (arith, eqb-true (i % 2) 0 e) in omega (arith, at.0, ap (λ (j : ℕ). get_or M.bytes j 0) q))
        (λ e. let q : 2 * (i / 2) + 1 ≡ i = omega (arith, eqb-false (i % 2) 0 e) in omega (arith, at.1, ap (λ (j : ℕ). get_or M.bytes j 0) q))

-- so does a valid one
pub valid_fitting : {M : Table} → Valid M → Fitting M.bytes
valid_fitting v = inside_fitting v.even v.few-atoms v.few-bonds v.inside

-- an atom at an end of a bond of it, and below the limit
abbrev pub EndAt : ℕ → ℕ → Type 0
EndAt e a = (e ≡ a) × (e < max_atoms)

-- the ends of a bond are so
pub ends-inside : {bs : List ℕ} {k : ℕ} {e : Ends} → Fitting bs → k < length bs / 2 → EndsOf bs k e
    → EndAt e.tail (tail (bonds_alone bs) k) × EndAt e.head (head (bonds_alone bs) k)
ends-inside {k = k} f l is =
    let (t, h) = is.bond l in
    ((t, omega (arith, t, f.ends (2 * k) (omega arith))), (h, omega (arith, h, f.ends (2 * k + 1) (omega arith))))
