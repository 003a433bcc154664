-- Sweeps until one changes nothing: each that changes something lowers the total and leads to the same reduced list, and where one
-- changes nothing the list is the reduced one. Assumes nothing.
use mathlib.Core.Bool.{Bool, true, false, true≢false}
use mathlib.Core.List.{List}
use mathlib.Core.Logic.{⊎_elim}
use mathlib.Core.Path.{◌≡◌, sym, ap, ◌∙◌}
use Prim.Native.Nat.{ℕ, ◌<◌}
use native.Mathlib.Omega.{arith}
use borrow.Author.Tests.{not-false}
use Rattle.definitions.specs.Reduced.{sweep, same?, weight, reduced}
use Rattle.definitions.proofs.Lists.{same_lists}
use Rattle.definitions.proofs.Sweeping.{sweep_falls, reduced_still, reduced-sweep}
use Rattle.reduced.specs.Change.{changed?}
use Rattle.reduced.proofs.Changing.{changed_none}

-- a sweep took m to n, and r says whether it changed anything
abbrev pub Swept : List ℕ → List ℕ → Bool → Type 0
Swept m n r = (n ≡ sweep m) × (r ≡ changed? m n)

-- one that changed something lowers the total
pub swept_falls : (m n : List ℕ) {r : Bool} → Swept m n r → r ≡ true → weight n < weight m
swept_falls m n s e =
    ⊎_elim (λ still. absurd (true≢false (sym e ∙ s.1 ∙ changed_none m n (s.0 ∙ still))))
    (λ lower. omega (arith, ap weight s.0)) (sweep_falls m)

-- a sweep leads to the same reduced list
pub swept_same : (l m n : List ℕ) {r : Bool} → reduced m ≡ reduced l → Swept m n r → reduced n ≡ reduced l
swept_same l m n e s = ap reduced s.0 ∙ reduced-sweep m ∙ e

-- after a sweep that changed nothing the list is the reduced one
pub swept_still : (l m n : List ℕ) {r : Bool} → reduced m ≡ reduced l → Swept m n r → r ≡ false → n ≡ reduced l
swept_still l m n e s h =
    let same : n ≡ m = same_lists n m (not-false (same? n m) (sym s.1 ∙ h)) in
    same ∙ sym (reduced_still m (sym s.0 ∙ same)) ∙ e
