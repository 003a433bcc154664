-- A `for` over the members of a set of places: which members the places taken so far are. Assumes nothing.
use mathlib.Core.Path.{◌≡◌, refl, sym, ◌∙◌}
use mathlib.Core.Logic.{◌↔◌}
use mathlib.Core.Bool.{true, false}
use mathlib.Core.List.Memᴰ.{not-nil as not-in-nil}
use mathlib.Core.List.{List, [], map-id, Memᴰ as In}
use Prim.Native.Nat.{ℕ, ◌<◌}
use native.Mathlib.Omega.{arith}
use Rattle.sets.specs.Bits.{has}
use Rattle.sets.specs.Rising.{rising}
use Rattle.sets.proofs.Upward.{Turn}
use Rattle.definitions.specs.Search.{listed}
use Rattle.definitions.proofs.Tests.{not_passed}
use Rattle.definitions.proofs.Lists.{listed_in}
use Rattle.definitions.proofs.Over.{listed_rising}

-- a place is one of those in rising order where it is a member below the bound
pub in_rising : (m s j : ℕ) → In j (rising m s) ↔ ((j < m) × (has s j ≡ true))
in_rising m s j = (
  λ i. let (k, l, h, e) = (listed_in m (has s) id j).0 (rw same at i) in (rw e at l, rw e at h),
  λ (l, h). rw same ((listed_in m (has s) id j).1 (j, l, h, refl)),
)
  where
    id : ℕ → ℕ
    id k = k

    same : rising m s ≡ listed m (has s) id
    same = sym (listed_rising id m s ∙ map-id (rising m s))

-- the place of a turn is not taken yet
pub turn_new : {m s k : ℕ} {xs : List ℕ} → Turn m s xs k → In k xs → ⊥
turn_new {s = s} {k} t i = let b = ((in_rising k s k).0 (rw t.before at i)).0 in absurd (omega arith)

-- where there is none below a bound, no place below it is a member
pub none_below : (m s : ℕ) → [] ≡ rising m s → (j : ℕ) → j < m → has s j ≡ false
none_below m s e j l = not_passed (has s j) (λ h. let i : In j (rising m s) = (in_rising m s j).1 (l, h) in not-in-nil (rw (← e) at i))
