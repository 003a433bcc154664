-- A loop over the pairs under way: what is left to do at the place reached, on the list as it is, is what there was to do at the start.
-- Assumes nothing.
use mathlib.Core.Bool.{Bool, false, ◌||◌}
use mathlib.Core.List.{List}
use mathlib.Core.Logic.{inl}
use mathlib.Core.Path.{◌≡◌, refl, sym, ap, ◌∙◌}
use Prim.Native.Nat.{ℕ, ◌+◌, ◌-◌, ◌≤◌, ◌<◌}
use native.Mathlib.Omega.{arith}
use lib.ListN.{length}
use Rattle.definitions.specs.Reduced.{exchange, along, across, sweep}
use Rattle.definitions.proofs.Sweeping.{Falls, falls_trans, exchange-length, exchange_falls, along-length, along_falls, along-on, along-over, across-on, across-over}
use Rattle.reduced.specs.Change.{changed?}
use Rattle.reduced.proofs.Changing.{changed_none, changed_both}

-- from l at the place `first` the loop has come to m at the place i, where `todo` is what a place leaves to do, and t says whether m is
-- another list than l
pub record Underway (todo : ℕ → List ℕ → List ℕ) (first : ℕ) (l m : List ℕ) (t : Bool) (i : ℕ) : Type 0 where
  pub from : first ≤ i
  pub to : i ≤ length l
  pub long : length m ≡ length l
  pub left : todo i m ≡ todo first l
  pub told : t ≡ changed? l m
  pub falls : Falls l m

-- at the start nothing is done
underway_none : (todo : ℕ → List ℕ → List ℕ) (first : ℕ) (l : List ℕ) → first ≤ length l → Underway todo first l l false first
underway_none todo first l h =
    record { from = omega arith; to = h; long = refl; left = refl; told = sym (changed_none l l refl); falls = inl refl }

-- a turn takes m to n by a step that does not raise the total
underway_more : {todo : ℕ → List ℕ → List ℕ} {first : ℕ} {l m n : List ℕ} {t r : Bool} {i : ℕ} → Underway todo first l m t i
    → i < length l → length n ≡ length m → todo i m ≡ todo (i + 1) n → Falls m n → r ≡ changed? m n → Underway todo first l n (r || t) (i + 1)
underway_more {l = l} {m} {n} {t} {r} u h len step f e =
    record {
      from = omega (arith, u.from);
      to = omega arith;
      long = len ∙ u.long;
      left = sym step ∙ u.left;
      told = ap (λ (x : Bool). x || t) e ∙ ap (λ (x : Bool). changed? m n || x) u.told ∙ changed_both l m n u.falls f;
      falls = falls_trans u.falls f;
    }

-- ---- the pairs of one set, and those of all

-- the pairs of set J from I on, in a list of n sets
abbrev pub Along : ℕ → ℕ → ℕ → List ℕ → List ℕ
Along J n I l = along J I (n - I) l

-- the pairs of the sets from J on, in a list of n sets
abbrev pub Across : ℕ → ℕ → List ℕ → List ℕ
Across n J l = across J (n - J) l

-- the loop over I has done the pairs of J before I
abbrev pub AlongTo : ℕ → List ℕ → List ℕ → Bool → ℕ → Type 0
AlongTo J l = Underway (Along J (length l)) (J + 1) l

-- the loop over J has done the pairs of the sets before J
abbrev pub AcrossTo : List ℕ → List ℕ → Bool → ℕ → Type 0
AcrossTo l = Underway (Across (length l)) 0 l

-- before the first pair
pub along-none : (J : ℕ) (l : List ℕ) → J < length l → AlongTo J l l false (J + 1)
along-none J l h = underway_none (Along J (length l)) (J + 1) l (omega arith)

-- one pair more
pub along_more : (J : ℕ) (l m n : List ℕ) {t r : Bool} {i : ℕ} → AlongTo J l m t i → i < length l
    → (n ≡ exchange m J i) × (r ≡ changed? m n) → AlongTo J l n (r || t) (i + 1)
along_more J l m n {i = i} u h e =
    underway_more u h (ap length e.0 ∙ exchange-length m J i)
    (along-on J i (length l) m h ∙ ap (Along J (length l) (i + 1)) (sym e.0))
    (rw e.0 (exchange_falls m J i (omega (arith, u.from)) (omega (arith, u.long)))) e.1

-- after the last pair
pub along_all : (J : ℕ) (l m : List ℕ) {t : Bool} {i : ℕ} → AlongTo J l m t i → length l ≤ i
    → (m ≡ along J (J + 1) (length l - (J + 1)) l) × (t ≡ changed? l m)
along_all J l m {i = i} u h = (sym (along-over J i (length l) m h) ∙ u.left, u.told)

-- before the first set
pub across-none : (l : List ℕ) → AcrossTo l l false 0
across-none l = underway_none (Across (length l)) 0 l (omega arith)

-- one set more
pub across_more : (l m n : List ℕ) {t r : Bool} {j : ℕ} → AcrossTo l m t j → j < length l
    → (n ≡ along j (j + 1) (length m - (j + 1)) m) × (r ≡ changed? m n) → AcrossTo l n (r || t) (j + 1)
across_more l m n {j = j} u h e =
    let pairs : n ≡ along j (j + 1) (length l - (j + 1)) m
    = e.0 ∙ ap (λ (k : ℕ). along j (j + 1) (k - (j + 1)) m) u.long in
    underway_more u h (ap length pairs ∙ along-length j (j + 1) (length l - (j + 1)) m)
    (across-on j (length l) m h ∙ ap (Across (length l) (j + 1)) (sym pairs))
    (rw pairs (along_falls j (j + 1) (length l - (j + 1)) m (omega arith) (omega (arith, u.long)))) e.1

-- after the last set
pub across_all : (l m : List ℕ) {t : Bool} {j : ℕ} → AcrossTo l m t j → length l ≤ j → (m ≡ sweep l) × (t ≡ changed? l m)
across_all l m {j = j} u h =
    let whole : length l - 0 ≡ length l = omega arith in
    (sym (across-over j (length l) m h) ∙ u.left ∙ ap (λ (k : ℕ). across 0 k l) whole, u.told)
