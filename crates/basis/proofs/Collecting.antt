-- A loop over the numbers from 0 that puts a set into an array for each that passes a test: f k where p k. Assumes nothing.
use mathlib.Core.Path.{◌≡◌, refl, sym, ap₂, ◌∙◌}
use mathlib.Core.Bool.{Bool, true, false}
use mathlib.Core.List.{List, [], ◌∷◌, ◌++◌}
use Prim.Native.Nat.{ℕ, ◌+◌, ◌≤◌, ◌<◌}
use native.Mathlib.Numerals.{add-one}
use native.Mathlib.Omega.{arith}
use lib.ListN.{length, get_or, take, set, length-set}
use lib.Seq.{take-suc-set, length-take-le, get_or-set_other}
use Rattle.definitions.specs.Search.{listed}
use Rattle.definitions.specs.Table.{max_bonds}
use Rattle.definitions.proofs.Lists.{listed-zero, listed_skip, listed-take}

-- the sets of the numbers below k that pass stand at the start of the array, and empty ones after them
pub record Collected (p : ℕ → Bool) (f : ℕ → ℕ) (sets : List ℕ) (n k : ℕ) : Type 0 where
  pub long : length sets ≡ max_bonds
  pub few : n ≤ k
  pub list : take n sets ≡ listed k p f
  pub blank : (i : ℕ) → n ≤ i → get_or sets i 0 ≡ 0

pub collected_none : (p : ℕ → Bool) (f : ℕ → ℕ) {sets : List ℕ} → length sets ≡ max_bonds → ((i : ℕ) → get_or sets i 0 ≡ 0) → Collected p f sets 0 0
collected_none p f e z = record { long = e; few = omega arith; list = sym (listed-zero p f); blank = λ i h. z i }

module _ {p : ℕ → Bool} {f : ℕ → ℕ} {sets : List ℕ} {n k : ℕ} (s : Collected p f sets n k) where
  -- a number that does not pass
  pub collected_skip : p k ≡ false → Collected p f sets n (k + 1)
  collected_skip e = record { long = s.long; few = omega (arith, s.few); list = s.list ∙ sym (listed_skip p f k refl e); blank = s.blank }

  -- the set of a number that passes is put into the array
  pub collected_take : {x : ℕ} → k < max_bonds → p k ≡ true → x ≡ f k → Collected p f (set sets n x) (n + 1) (k + 1)
  collected_take {x} l t e = record {
    long = simp length-set s.long;
    few = omega (arith, s.few);
    list = rw (add-one n)
        (take-suc-set sets n x (omega (arith, s.long, s.few))
        ∙ ap₂ (λ (l : List ℕ) (y : ℕ). l ++ (y ∷ [])) s.list e ∙ sym (listed-take p f k refl t));
    blank = λ i h. get_or-set_other sets n i x 0 (omega arith) ∙ s.blank i (omega arith);
  }

  -- there are as many as were counted
  pub collected_count : k ≤ max_bonds → length (take n sets) ≡ n
  collected_count h = length-take-le n sets (omega (arith, s.long, s.few))
