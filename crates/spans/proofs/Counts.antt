-- How many numbers of a list are at most t, or t; their total. A list with at least as many small numbers as another of the same
-- length has no larger total, and where the totals are the same, so are the counts. Assumes nothing.
use mathlib.Core.Path.{◌≡◌, refl, sym, ap, ◌∙◌}
use mathlib.Core.Bool.{Bool, cond}
use mathlib.Core.List.Memᴰ.{head as here}
use mathlib.Core.List.Memᴰ.{tail as there}
use mathlib.Core.List.{List, [], ◌∷◌, map, Sublistᴰ, Memᴰ as In}
use Prim.Native.Nat.{ℕ, zero, suc, ◌+◌, ◌-◌, ◌*◌, ◌≤◌, ◌<◌}
use native.Mathlib.Nat.{mul-suc}
use native.Mathlib.Decide.{dec_le, ℕ_discrete}
use native.Mathlib.Omega.{arith}
use lib.Dec.{leb, eqb}
use lib.ListN.{length}
use borrow.Author.Tests.{le-leb, lt-leb, eq-eqb, ne_eqb}
use Rattle.definitions.specs.Search.{keep, total}
use Rattle.definitions.specs.Label.{occurs}
use Rattle.definitions.proofs.Tests.{by}
use Rattle.definitions.proofs.Lists.{keep-nil, keep-take, keep_skip}
use Rattle.definitions.proofs.Sorting.{occurs-nil, occurs-cons}

-- 1 for a test that passes, 0 for one that fails
abbrev bit : Bool → ℕ
bit b = cond b 1 0

-- ---- what a test keeps of a list

-- it is a part of the list
pub keep-sub : {A : Type 0} (p : A → Bool) (xs : List A) → Sublistᴰ (keep p xs) xs
keep-sub p [] = rw (keep-nil p) Sublistᴰ.slnil
keep-sub p (x ∷ xs) =
    by (p x)
    (λ e. rw (keep-take p x xs e) (Sublistᴰ.cons-cons refl (keep-sub p xs)))
    (λ e. rw (keep_skip p x xs e) (Sublistᴰ.cons (keep-sub p xs)))

-- one element more
length-keep : {A : Type 0} (p : A → Bool) (x : A) (xs : List A) → length (keep p (x ∷ xs)) ≡ bit (p x) + length (keep p xs)
length-keep p x xs = by (p x) (λ e. rw (keep-take p x xs e, e) (omega arith)) (λ e. rw (keep_skip p x xs e, e) (omega arith))

-- what is kept of images are the images of what is kept
length-keep-map : {A B : Type 0} (f : A → B) (p : B → Bool) (xs : List A) → length (keep p (map f xs)) ≡ length (keep (λ x. p (f x)) xs)
length-keep-map f p [] = rw (keep-nil p, keep-nil (λ x. p (f x)))
length-keep-map f p (x ∷ xs) =
    length-keep p (f x) (map f xs) ∙ ap (λ (n : ℕ). bit (p (f x)) + n) (length-keep-map f p xs) ∙ sym (length-keep (λ x. p (f x)) x xs)

-- ---- counts and the total

-- how many numbers of a list are at most t
unfoldable pub upto : ℕ → List ℕ → ℕ
upto t ns = length (keep (λ n. leb n t) ns)

-- the elements that weigh at most t
abbrev pub light : {A : Type 0} → (A → ℕ) → ℕ → List A → List A
light w t xs = keep (λ x. leb (w x) t) xs

-- their number is the count of their weights
pub length_light : {A : Type 0} (w : A → ℕ) (t : ℕ) (xs : List A) → length (light w t xs) ≡ upto t (map w xs)
unfolding upto
length_light w t xs = sym (length-keep-map w (λ n. leb n t) xs)

-- no number of the empty list is at most t
upto_none : (t : ℕ) → upto t [] ≡ 0
unfolding upto keep
upto_none t = refl

-- one number more
upto_cons : (t n : ℕ) (ns : List ℕ) → upto t (n ∷ ns) ≡ bit (leb n t) + upto t ns
unfolding upto
upto_cons t n ns = length-keep (λ n. leb n t) n ns

-- the total of no numbers
total-none : total [] ≡ 0
unfolding total
total-none = refl

-- the total with one number more
total-cons : (n : ℕ) (ns : List ℕ) → total (n ∷ ns) ≡ n + total ns
unfolding total
total-cons n ns = refl

-- each number is at most the total
in_total : (ns : List ℕ) (n : ℕ) → In n ns → n ≤ total ns
in_total (m ∷ ns) n (here q) = omega (arith, total-cons m ns)
in_total (m ∷ ns) n (there i) = omega (arith, total-cons m ns, in_total ns n i)
in_total [] n x' = elim x' [ ]

-- ---- a total in another way

-- the counts up to each number below t, summed
abbrev area : ℕ → List ℕ → ℕ
area zero ns = 0
area (suc t) ns = upto t ns + area t ns

-- the empty list has no counts
area_none : (t : ℕ) → area t [] ≡ 0
area_none zero = refl
area_none (suc t) = omega (arith, upto_none t, area_none t)

-- one number more adds what it is short of t
area_cons : (t n : ℕ) (ns : List ℕ) → area t (n ∷ ns) ≡ (t - n) + area t ns
area_cons zero n ns = omega arith
area_cons (suc t) n ns = go (dec_le n t) (area_cons t n ns) (upto_cons t n ns)
  where
    go : Dec (n ≤ t) → area t (n ∷ ns) ≡ (t - n) + area t ns → upto t (n ∷ ns) ≡ bit (leb n t) + upto t ns
        → upto t (n ∷ ns) + area t (n ∷ ns) ≡ (suc t - n) + (upto t ns + area t ns)
    go (yes h) e f = let g = rw (le-leb n t h) at f in omega arith
    go (no h) e f = let g = rw (lt-leb n t (omega arith)) at f in omega arith

-- the total and the area fill t for each number
total_area : (t : ℕ) (ns : List ℕ) → ((n : ℕ) → In n ns → n ≤ t) → total ns + area t ns ≡ t * length ns
total_area t [] h = omega (arith, total-none, area_none t)
total_area t (n ∷ ns) h =
    let e = total_area t ns (λ m i. h m (there i)) in
    let l = h n (here refl) in
    omega (arith, area_cons t n ns, total-cons n ns, mul-suc t (length ns))

module _ (ns ms : List ℕ) (most : (t : ℕ) → upto t ms ≤ upto t ns) where
  -- a list with more small numbers has the larger area
  area_le : (t : ℕ) → area t ms ≤ area t ns
  area_le zero = omega arith
  area_le (suc t) = omega (arith, area_le t, most t)

  -- where the areas are the same, so are the counts
  area_eq : (t s : ℕ) → area t ns ≡ area t ms → s < t → upto s ns ≡ upto s ms
  area_eq zero s e h = omega arith
  area_eq (suc t) s e h =
      elim (ℕ_discrete s t) [
        | yes q ↦ rw q (omega (arith, most t, area_le t))
        | no n ↦ area_eq t s (omega (arith, most t, area_le t)) (omega arith)
      ]

  module _ (same : length ns ≡ length ms) where
    -- lists of one length have the same sum of total and area
    sums : (t : ℕ) → total ns + total ms ≤ t → total ns + area t ns ≡ total ms + area t ms
    sums t h =
        total_area t ns (λ n i. omega (arith, in_total ns n i))
        ∙ ap (λ (n : ℕ). t * n) same
        ∙ sym (total_area t ms (λ n i. omega (arith, in_total ms n i)))

    -- the list with more small numbers has no larger total
    pub lighter : total ns ≤ total ms
    lighter = let t = total ns + total ms in omega (arith, sums t (omega arith), area_le t)

    -- and where it has the same total, the counts agree
    pub same_upto : total ns ≡ total ms → (s : ℕ) → upto s ns ≡ upto s ms
    same_upto e s = let t = total ns + total ms + suc s in area_eq t s (omega (arith, sums t (omega arith))) (omega arith)

-- ---- at most t, and t

-- at most t + 1 is at most t, or t + 1
one_more : (n t : ℕ) → bit (leb n (suc t)) ≡ bit (leb n t) + bit (eqb n (suc t))
one_more n t = go (dec_le n t) (ℕ_discrete n (suc t))
  where
    go : Dec (n ≤ t) → Dec (n ≡ suc t) → bit (leb n (suc t)) ≡ bit (leb n t) + bit (eqb n (suc t))
    go (yes h) d = rw (le-leb n (suc t) (omega arith), le-leb n t h, ne_eqb n (suc t) (λ e. omega arith))
    go (no h) (yes e) = rw (le-leb n (suc t) (omega arith), lt-leb n t (omega arith), eq-eqb n (suc t) e)
    go (no h) (no e) = rw (lt-leb n (suc t) (omega arith), lt-leb n t (omega arith), ne_eqb n (suc t) e)

-- at most 0 is 0
at_zero : (n : ℕ) → bit (leb n 0) ≡ bit (eqb n 0)
at_zero n = go (dec_le n 0)
  where
    go : Dec (n ≤ 0) → bit (leb n 0) ≡ bit (eqb n 0)
    go (yes h) = rw (le-leb n 0 h, eq-eqb n 0 (omega arith))
    go (no h) = rw (lt-leb n 0 (omega arith), ne_eqb n 0 (λ e. omega arith))

-- so are the counts of a list
upto_suc : (t : ℕ) (ns : List ℕ) → upto (suc t) ns ≡ upto t ns + occurs (suc t) ns
upto_suc t [] = omega (arith, upto_none (suc t), upto_none t, occurs-nil (suc t))
upto_suc t (n ∷ ns) = omega (arith, upto_suc t ns, upto_cons (suc t) n ns, upto_cons t n ns, occurs-cons (suc t) n ns, one_more n t)

-- and the counts at 0
upto_zero : (ns : List ℕ) → upto 0 ns ≡ occurs 0 ns
upto_zero [] = upto_none 0 ∙ sym (occurs-nil 0)
upto_zero (n ∷ ns) = omega (arith, upto_zero ns, upto_cons 0 n ns, occurs-cons 0 n ns, at_zero n)

-- lists with the same counts up to each number have each number equally often
pub same-occurs : (ns ms : List ℕ) → ((t : ℕ) → upto t ns ≡ upto t ms) → (t : ℕ) → occurs t ns ≡ occurs t ms
same-occurs ns ms h zero = sym (upto_zero ns) ∙ h 0 ∙ upto_zero ms
same-occurs ns ms h (suc t) = omega (arith, upto_suc t ns, upto_suc t ms, h t, h (suc t))
