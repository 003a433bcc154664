-- A `for` over the members of a set of places: f of every member taken so far, in order, and what a turn adds. Assumes nothing.
use mathlib.Core.Path.{◌≡◌, refl, sym, ap, ◌∙◌}
use mathlib.Core.Bool.{Bool, true, false}
use mathlib.Core.List.{List, [], ◌∷◌, ◌++◌, map}
use Prim.Native.Nat.{ℕ, zero, suc, ◌<◌}
use native.Mathlib.Omega.{arith}
use lib.ListN.{length, length-map}
use Rattle.std.proofs.lemmas.List.{map-append}
use Rattle.sets.specs.Bits.{has}
use Rattle.sets.specs.Rising.{rising}
use Rattle.sets.proofs.Upward.{Turn}
use Rattle.definitions.specs.Search.{listed}

module _ {A : Type 0} (f : ℕ → A) where
  -- f of the members in rising order is what is listed
  pub listed_rising : (m s : ℕ) → listed m (has s) f ≡ map f (rising m s)
  unfolding listed rising
  listed_rising zero s = refl
  listed_rising (suc m) s = go (has s m) (listed_rising m s)
    where
      go : (x : Bool) → listed m (has s) f ≡ map f (rising m s)
          → elim x [ true ↦ listed m (has s) f ++ (f m ∷ []) | false ↦ listed m (has s) f ] ≡ map f (elim x [ true ↦ rising m s ++ (m ∷ []) | false ↦ rising m s ])
      go true e = ap (λ (l : List A). l ++ (f m ∷ [])) e ∙ sym (map-append f (rising m s) (m ∷ []))
      go false e = e

  -- a turn adds f of its member
  pub map_more : (xs : List ℕ) (k : ℕ) → map f (xs ++ (k ∷ [])) ≡ map f xs ++ (f k ∷ [])
  map_more xs k = map-append f xs (k ∷ [])

  -- f of the members so far is listed below the turn's member, and there is one more
  pub turn_listed : {m s k : ℕ} {xs : List ℕ} → Turn m s xs k → map f xs ≡ listed k (has s) f
  turn_listed {s = s} {k = k} t = ap (map f) t.before ∙ sym (listed_rising k s)

  pub turn_fewer : {m s k : ℕ} {xs : List ℕ} → Turn m s xs k → length (map f xs) < length (listed m (has s) f)
  turn_fewer {m} {s} {xs = xs} t =
      omega (arith, t.fewer, length-map xs f, length-map (rising m s) f, ap length (listed_rising m s))
