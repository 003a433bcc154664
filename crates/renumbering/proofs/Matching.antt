-- Lists without repeats whose members are matched: the one is no longer than the other. Assumes nothing.
use mathlib.Core.Path.{◌≡◌, refl, ap}
use mathlib.Core.Logic.{⊎_elim}
use mathlib.Core.Bool.{Bool}
use mathlib.Core.List.Memᴰ.{cases_cons as in-cons}
use mathlib.Core.List.Memᴰ.{head as here}
use mathlib.Core.List.Memᴰ.{not-nil as not-in-nil}
use mathlib.Core.List.Memᴰ.{tail as there}
use mathlib.Core.List.{List, [], ◌∷◌, Memᴰ as In}
use Prim.Native.Nat.{ℕ, suc, ◌≤◌}
use native.Mathlib.Omega.{arith}
use lib.ListN.{length}
use Rattle.definitions.specs.Search.{count, those}
use Rattle.definitions.proofs.Lists.{NoRepeats, fresh_none, fresh_more, fresh_length, those_fresh, length-listed}

-- each member of l has a partner in m, and no two have the same
pub record Matches {A B : Type 0} (R : A → B → Type 0) (l : List A) (m : List B) : Type 0 where
  pub partner : (a : A) → In a l → (b : B) × In b m × R a b
  pub one : (a c : A) (b : B) → In a l → In c l → R a b → R c b → a ≡ c

module _ {A B : Type 0} (R : A → B → Type 0) where
  -- the partners of a list without repeats, in order
  record Partners (l : List A) (m : List B) : Type 0 where
    list : List B
    fresh : NoRepeats list
    long : length list ≡ length l
    within : (b : B) → In b list → In b m
    owner : (b : B) → In b list → (a : A) × In a l × R a b

  -- each member in turn gets its partner
  partners : {l : List A} {m : List B} → NoRepeats l → Matches R l m → Partners l m
  partners fresh_none h = record { list = []; fresh = fresh_none; long = refl; within = λ b i. absurd (not-in-nil i); owner = λ b i. absurd (not-in-nil i) }
  partners {m = m} (fresh_more {x} {l} n f) h = add (h.partner x (here refl)) (partners f rest)
    where
      rest : Matches R l m
      rest = record { partner = λ a i. h.partner a (there i); one = λ a c b i j. h.one a c b (there i) (there j) }

      add : (b : B) × In b m × R x b → Partners l m → Partners (x ∷ l) m
      add (b, i, r) p =
          record {
            list = b ∷ p.list;
            fresh = fresh_more (λ j. let (a, k, q) = p.owner b j in n (rw (h.one x a b (here refl) (there k) r q) k)) p.fresh;
            long = ap suc p.long;
            within = λ c j. ⊎_elim (λ e. rw e i) (λ k. p.within c k) (in-cons j);
            owner = λ c j. ⊎_elim (λ e. (x, here refl, rw e r)) (λ k. let (a, q, s) = p.owner c k in (a, there q, s)) (in-cons j);
          }

  -- a list without repeats is no longer than one in which its members have partners
  pub matched_length : {l : List A} {m : List B} → NoRepeats l → Matches R l m → length l ≤ length m
  matched_length f h = let p = partners f h in omega (arith, p.long, fresh_length p.fresh p.within)

-- no more numbers pass one test than pass another in which they have partners
pub matched_count : (R : ℕ → ℕ → Type 0) (n m : ℕ) (p q : ℕ → Bool) → Matches R (those n p) (those m q) → count n p ≤ count m q
matched_count R n m p q h = omega (arith, matched_length R (those_fresh n p) h, length-listed n p (λ k. k), length-listed m q (λ k. k))
