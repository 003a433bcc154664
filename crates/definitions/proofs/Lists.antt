-- The lists, counts and sets that a bounded search makes: their members, their lengths, one turn of the loop that makes them, and when two
-- of them are equal. `In x l`: x is a member of l. Assumes nothing.
use mathlib.Core.Path.{◌≡◌, refl, sym, ap, ap₂, ◌∙◌}
use mathlib.Core.Logic.{◌↔◌, ◌≢◌, ◌⊎◌, inl, inr, ⊎_elim}
use mathlib.Core.Bool.{Bool, true, false, ◌&&◌, ◌||◌, cond, true≢false, false≢true, and-false, or-true, or-false}
use mathlib.Core.List.Memᴰ
use mathlib.Core.List.{List, [], ◌∷◌, ◌++◌, map, append-nil}
use mathlib.Core.List.Memᴰ.{append_cases as in-append}
use mathlib.Core.List.Memᴰ.{cases_cons as in-cons}
use mathlib.Core.List.Memᴰ.{head as here}
use mathlib.Core.List.Memᴰ.{not-nil as not-in-nil}
use mathlib.Core.List.Memᴰ.{tail as there}
use mathlib.Core.List.{Memᴰ as In}
use Prim.Native.Nat.{ℕ, zero, suc, ◌+◌, ◌^◌, ◌<◌, ◌≤◌}
use native.Mathlib.Numerals.{add-one}
use native.Mathlib.Nat.{le_refl}
use native.Mathlib.Decide.{le_ind}
use native.Mathlib.Omega.{arith}
use lib.ListN.{length, get_or, replicate, length-append, length-replicate, get_or-replicate, get_or-append, get_or-eq_default}
use lib.Seq.{get_or_at}
use lib.Dec.{eqb, ltb}
use borrow.Author.Tests.{eqb-true, eqb-false, ltb-true, ltb-false, lt-ltb, le-ltb}
use Rattle.sets.specs.Bits.{has, size, with}
use Rattle.sets.proofs.Laws.{ext, below, has_above, has-zero, has-with, has-or}
use Rattle.sets.proofs.Size.{size-zero, size-with}
use Rattle.definitions.specs.Search.{count, listed, those, set_of, gather, keep, total, union_of}
use Rattle.definitions.specs.Reduced.{same?}
use Rattle.definitions.proofs.Tests.{by, same_test, and_both, or-one, eqb_self}
pub use Rattle.definitions.specs.Search.{Sorted, sorted_none, sorted_more}

-- ---- lists in general

-- two lists that the test `same?` takes for one are one
pub same_lists : (l m : List ℕ) → same? l m ≡ true → l ≡ m
unfolding same?
same_lists [] [] e = refl
same_lists [] (y ∷ m) e = absurd (false≢true e)
same_lists (x ∷ l) [] e = absurd (false≢true e)
same_lists (x ∷ l) (y ∷ m) e = let h = and_both (eqb x y) (same? l m) e in ap₂ ◌∷◌ (eqb-true x y h.0) (same_lists l m h.1)

same_self : (l : List ℕ) → same? l l ≡ true
unfolding same?
same_self [] = refl
same_self (x ∷ l) = ap₂ ◌&&◌ (eqb_self x) (same_self l)

-- and one list is taken for one
pub lists_same : (l m : List ℕ) → l ≡ m → same? l m ≡ true
lists_same l m e = rw e (same_self m)

module _ {A : Type 0} where
  -- one more at the end makes a list one longer
  pub length_snoc : (l : List A) (x : A) → length (l ++ (x ∷ [])) ≡ length l + 1
  length_snoc l x = length-append l (x ∷ [])

  -- the last of a list is a member
  pub in_last : (l : List A) (x : A) → In x (l ++ (x ∷ []))
  in_last l x = Memᴰ.append_right l (here refl)

  -- the members of a list with one more at its end
  pub in_snoc : (l : List A) {x y : A} → In y (l ++ (x ∷ [])) → In y l ⊎ (y ≡ x)
  in_snoc l {x} {y} i = ⊎_elim inl (λ j. inr (last j)) (in-append l i)
    where
      last : In y (x ∷ []) → y ≡ x
      last (here e) = e
      last (there j) = absurd (not-in-nil j)

  -- what stands at a place of a list is a member
  pub get_or_in : (l : List A) (i : ℕ) (d : A) → i < length l → In (get_or l i d) l
  get_or_in [] i d h = absurd (omega arith)
  get_or_in (x ∷ l) zero d h = here refl
  get_or_in (x ∷ l) (suc i) d h = there (get_or_in l i d (omega arith))

  -- and a member stands at a place
  pub in_get_or : {x : A} {l : List A} (d : A) → In x l → (i : ℕ) × (i < length l) × (get_or l i d ≡ x)
  in_get_or d (here e) = (0, omega arith, sym e)
  in_get_or d (there m) = let r = in_get_or d m in (suc r.0, omega arith, r.2)

module _ {A B : Type 0} (f : A → B) where
  -- maps that agree on the members have one image
  pub map_ext : (g : A → B) (l : List A) → ((x : A) → In x l → f x ≡ g x) → map f l ≡ map g l
  map_ext g [] h = refl
  map_ext g (x ∷ l) h = ap₂ ◌∷◌ (h x (here refl)) (map_ext g l (λ y i. h y (there i)))

-- ---- lists without repeats, lists in order

module _ {A : Type 0} where
  -- no member stands twice
  pub data NoRepeats : List A → Type 0 where
    fresh_none : NoRepeats []
    fresh_more : {x : A} {l : List A} → (In x l → ⊥) → NoRepeats l → NoRepeats (x ∷ l)

  -- a list in an order that nothing stands before itself in has no repeats
  pub sorted_fresh : {before : A → A → Bool} {l : List A} → ((x : A) → before x x ≡ false) → Sorted before l → NoRepeats l
  sorted_fresh irrefl sorted_none = fresh_none
  sorted_fresh irrefl (sorted_more {x} h s) = fresh_more (λ i. true≢false (sym (h x i) ∙ irrefl x)) (sorted_fresh irrefl s)

  -- one more at the end, after all
  pub sorted_snoc : {before : A → A → Bool} {l : List A} {x : A} → Sorted before l → ((y : A) → In y l → before y x ≡ true) → Sorted before (l ++ (x ∷ []))
  sorted_snoc sorted_none h = sorted_more (λ y i. absurd (not-in-nil i)) sorted_none
  sorted_snoc (sorted_more {x = y} {l} g s) h =
      sorted_more (λ z i. ⊎_elim (λ j. g z j) (λ e. rw e (h y (here refl))) (in_snoc l i)) (sorted_snoc s (λ z i. h z (there i)))

  -- what stands before a member of a list in order is before it
  pub sorted_earlier : {before : A → A → Bool} (a : List A) (x : A) (c : List A) → Sorted before (a ++ (x ∷ c))
      → (y : A) → In y a → before y x ≡ true
  sorted_earlier (z ∷ a) x c (sorted_more h s) y (here e) = rw e (h x (Memᴰ.append_right a (here refl)))
  sorted_earlier (z ∷ a) x c (sorted_more h s) y (there i) = sorted_earlier a x c s y i
  sorted_earlier {before = before} [] x c _ y x5 = elim x5 [ ]

-- a member's place: what stands before it and after it
pub in_split : {A : Type 0} {x : A} {l : List A} → In x l → (a : List A) × (c : List A) × (l ≡ a ++ (x ∷ c))
in_split (here {xs} e) = ([], xs, ap (λ y. y ∷ xs) (sym e))
in_split (there {x = y} i) = let r = in_split i in (y ∷ r.0, r.1, ap (λ l. y ∷ l) r.2)

-- a list without repeats is no longer than one that has its members
pub fresh_length : {A : Type 0} {l m : List A} → NoRepeats l → ((x : A) → In x l → In x m) → length l ≤ length m
fresh_length fresh_none h = omega arith
fresh_length {A} {m = m} (fresh_more {x} {l} n f) h = longer (fresh_length f others)
  where
    r : (a : List A) × (c : List A) × (m ≡ a ++ (x ∷ c))
    r = in_split (h x (here refl))

    others : (y : A) → In y l → In y (r.0 ++ r.1)
    others y i =
        ⊎_elim (λ j. Memᴰ.append_left r.1 j)
        (λ j. ⊎_elim (λ e. absurd (n (Memᴰ.cast (sym e) i))) (λ k. Memᴰ.append_right r.0 k) (in-cons j))
        (in-append r.0 (rw r.2 at (h y (there i))))

    longer : length l ≤ length (r.0 ++ r.1) → suc (length l) ≤ length m
    longer e = omega (arith, ap length r.2, length-append r.0 (x ∷ r.1), length-append r.0 r.1)

-- different images of the members are without repeats too
pub fresh_map : {A B : Type 0} (f : A → B) {l : List A} → NoRepeats l → ((x y : A) → In x l → In y l → f x ≡ f y → x ≡ y) → NoRepeats (map f l)
fresh_map f fresh_none h = fresh_none
fresh_map f (fresh_more {x} {l} n r) h =
    fresh_more (λ i. let s = Memᴰ.of_map f l i in n (Memᴰ.cast (h x s.0 (here refl) (there s.1) (sym s.2)) s.1))
    (fresh_map f r (λ y z i j. h y z (there i) (there j)))

-- ---- how many pass

module _ (p : ℕ → Bool) where
  -- a turn of the loop at k whose test r failed counts nothing
  pub count_skip : (k : ℕ) {r : Bool} → r ≡ p k → r ≡ false → count (k + 1) p ≡ count k p
  unfolding count
  count_skip k e h = rw (add-one, ← e, h) (omega arith)

  -- a turn whose test passed counts one
  pub count-take : (k : ℕ) {r : Bool} → r ≡ p k → r ≡ true → count (k + 1) p ≡ count k p + 1
  unfolding count
  count-take k e h = rw (add-one, ← e, h)

  -- one more number adds 0 or 1
  pub count_grows : (k : ℕ) → (count k p ≤ count (suc k) p) × (count (suc k) p ≤ count k p + 1)
  unfolding count
  count_grows k = by (p k) (λ h. rw h (omega arith)) (λ h. rw h (omega arith))

  -- the count does not fall
  pub count_mono : (k n : ℕ) → k ≤ n → count k p ≤ count n p
  count_mono k n h = le_ind (λ m. count k p ≤ count m p) (le_refl _) (λ m (l : k ≤ m) ih. omega (arith, count_grows m)) n h

  -- no more pass than there are
  pub count-le : (n : ℕ) → count n p ≤ n
  unfolding count
  count-le zero = le_refl 0
  count-le (suc n) = omega (arith, count_grows n, count-le n)

  -- a number that passes counts
  pub count-lt : (n k : ℕ) → k < n → p k ≡ true → count k p < count n p
  count-lt n k l h = omega (arith, count-take k (sym h) refl, count_mono (k + 1) n (omega arith))

  -- the number that is counted as number i
  pub count_find : (n i : ℕ) → i < count n p → (k : ℕ) × (k < n) × (p k ≡ true) × (count k p ≡ i)
  unfolding count
  count_find zero i l = absurd (omega arith)
  count_find (suc n) i l =
      by (ltb i (count n p))
      (λ t. let r = count_find n i (ltb-true i (count n p) t) in (r.0, omega (arith, r.1), r.2, r.3))
      (λ t. by (p n)
      (λ h. (n, omega arith, h, omega (arith, ltb-false i (count n p) t, count_grows n)))
      (λ h. absurd (omega (arith, ltb-false i (count n p) t, let e : count n p + cond (p n) 1 0 ≡ count n p = rw h (omega arith) in e))))

  -- where none passes the count is 0
  pub count_none : (n : ℕ) → ((k : ℕ) → k < n → p k ≡ false) → count n p ≡ 0
  unfolding count
  count_none zero h = refl
  count_none (suc n) h = rw (h n (omega arith)) (omega (arith, count_none n (λ k l. h k (omega arith))))

  -- where all pass the count is their number
  pub count_all : (n : ℕ) → ((k : ℕ) → k < n → p k ≡ true) → count n p ≡ n
  unfolding count
  count_all zero h = refl
  count_all (suc n) h = rw (h n (omega arith)) (omega (arith, count_all n (λ k l. h k (omega arith))))

-- tests that agree below n have one count
pub count_ext : (n : ℕ) (p q : ℕ → Bool) → ((k : ℕ) → k < n → p k ≡ q k) → count n p ≡ count n q
unfolding count
count_ext zero p q h = refl
count_ext (suc n) p q h = ap₂ (λ (x : ℕ) (b : Bool). x + cond b 1 0) (count_ext n p q (λ k l. h k (omega arith))) (h n (omega arith))

-- of two tests that differ at h alone, the one that passes there counts one more
pub count_differ : (n h : ℕ) (p q : ℕ → Bool) → h < n → p h ≡ true → q h ≡ false → ((k : ℕ) → k < n → k ≢ h → p k ≡ q k) → count n p ≡ count n q + 1
unfolding count
count_differ zero h p q l t f same = absurd (omega arith)
count_differ (suc n) h p q l t f same =
    by (eqb h n)
    (λ e.
    let i = eqb-true h n e in
    let pass : p n ≡ true = ap p (sym i) ∙ t in
    let fail : q n ≡ false = ap q (sym i) ∙ f in
    rw (pass, fail) (omega (arith, count_ext n p q (λ k m. same k (omega arith) (λ j. omega arith)))))
    (λ e.
    let ne = eqb-false h n e in
    rw (same n (omega arith) (λ j. ne (sym j))) (omega (arith, count_differ n h p q (omega arith) t f (λ k m. same k (omega arith)))))

-- ---- what a loop over the numbers that pass gathers

module _ {A : Type 0} (p : ℕ → Bool) (f : ℕ → A) where
  -- a turn of the loop at k whose test r failed lists nothing
  pub listed_skip : (k : ℕ) {r : Bool} → r ≡ p k → r ≡ false → listed (k + 1) p f ≡ listed k p f
  unfolding listed
  listed_skip k e h = rw (add-one, sym e ∙ h, listed)

  -- a turn whose test passed lists f k
  pub listed-take : (k : ℕ) {r : Bool} → r ≡ p k → r ≡ true → listed (k + 1) p f ≡ listed k p f ++ (f k ∷ [])
  unfolding listed
  listed-take k e h = rw (add-one, sym e ∙ h, listed)

  -- before the first turn nothing is listed
  pub listed-zero : listed 0 p f ≡ []
  unfolding listed
  listed-zero = refl

  skip : (k : ℕ) → p k ≡ false → listed (suc k) p f ≡ listed k p f
  unfolding listed
  skip k h = rw (h, listed)

  take : (k : ℕ) → p k ≡ true → listed (suc k) p f ≡ listed k p f ++ (f k ∷ [])
  unfolding listed
  take k h = rw (h, listed)

-- as many are listed as pass
pub length-listed : {A : Type 0} (n : ℕ) (p : ℕ → Bool) (f : ℕ → A) → length (listed n p f) ≡ count n p
unfolding listed count
length-listed zero p f = refl
length-listed (suc n) p f =
    by (p n)
    (λ h. ap length (take p f n h) ∙ length_snoc (listed n p f) (f n) ∙ rw h (ap (λ (x : ℕ). x + 1) (length-listed n p f)))
    (λ h. ap length (skip p f n h) ∙ rw h (length-listed n p f ∙ omega arith))

listed_found : {A : Type 0} (n : ℕ) (p : ℕ → Bool) (f : ℕ → A) (x : A) → In x (listed n p f) → (k : ℕ) × (k < n) × (p k ≡ true) × (f k ≡ x)
unfolding listed
listed_found zero p f x i = absurd (not-in-nil i)
listed_found {A} (suc n) p f x i =
    by (p n)
    (λ h. ⊎_elim (λ j. lift (listed_found n p f x j)) (λ e. (n, omega arith, h, sym e)) (in_snoc (listed n p f) (rw (take p f n h) at i)))
    (λ h. lift (listed_found n p f x (rw (skip p f n h) at i)))
  where
    lift : (k : ℕ) × (k < n) × (p k ≡ true) × (f k ≡ x) → (k : ℕ) × (k < suc n) × (p k ≡ true) × (f k ≡ x)
    lift r = (r.0, omega arith, r.2, r.3)

-- f k is a member for each k that passes
pub listed_has : {A : Type 0} (n : ℕ) (p : ℕ → Bool) (f : ℕ → A) (k : ℕ) → k < n → p k ≡ true → In (f k) (listed n p f)
unfolding listed
listed_has zero p f k l h = absurd (omega arith)
listed_has {A} (suc n) p f k l h =
    by (eqb k n)
    (λ e. rw (take p f n (ap p (sym (eqb-true k n e)) ∙ h), eqb-true k n e) (in_last (listed n p f) (f n)))
    (λ e. let i = listed_has n p f k (omega (arith, eqb-false k n e)) h in
    by (p n) (λ t. rw (take p f n t) (Memᴰ.append_left (f n ∷ []) i)) (λ t. rw (skip p f n t) i))

-- the members are f k for each k below n that passes, and nothing else
pub listed_in : {A : Type 0} (n : ℕ) (p : ℕ → Bool) (f : ℕ → A) (x : A) → In x (listed n p f) ↔ ((k : ℕ) × (k < n) × (p k ≡ true) × (f k ≡ x))
listed_in n p f x = (listed_found n p f x, λ r. rw r.3 at (listed_has n p f r.0 r.1 r.2))

-- the members of `those n p` are the numbers below n that pass
pub those_in : (n : ℕ) (p : ℕ → Bool) (k : ℕ) → In k (those n p) ↔ ((k < n) × (p k ≡ true))
those_in n p k = (
  λ i. let r = (listed_in n p (λ x. x) k).0 i in (omega (arith, r.1, r.3), ap p (sym r.3) ∙ r.2),
  λ h. listed_has n p (λ x. x) k h.0 h.1,
)

-- lists of tests that agree, and of values that agree where the tests pass
pub listed_ext : {A : Type 0} (n : ℕ) (p q : ℕ → Bool) (f g : ℕ → A) → ((k : ℕ) → k < n → p k ≡ q k) → ((k : ℕ) → k < n → p k ≡ true → f k ≡ g k) → listed n p f ≡ listed n q g
unfolding listed
listed_ext zero p q f g h e = refl
listed_ext {A} (suc n) p q f g h e =
    let ih : listed n p f ≡ listed n q g = listed_ext n p q f g (λ k l. h k (omega arith)) (λ k l. e k (omega arith)) in
    by (p n)
    (λ t. take p f n t ∙ ap₂ (λ (l : List A) (x : A). l ++ (x ∷ [])) ih (e n (omega arith) t) ∙ sym (take q g n (sym (h n (omega arith)) ∙ t)))
    (λ t. skip p f n t ∙ ih ∙ sym (skip q g n (sym (h n (omega arith)) ∙ t)))

-- f k stands at the place that counts those before k
pub listed-place : {A : Type 0} (n : ℕ) (p : ℕ → Bool) (f : ℕ → A) (k : ℕ) (d : A) → k < n → p k ≡ true → get_or (listed n p f) (count k p) d ≡ f k
listed-place zero p f k d l h = absurd (omega arith)
listed-place {A} (suc n) p f k d l h =
    by (eqb k n)
    (λ e. rw (take p f n (ap p (sym (eqb-true k n e)) ∙ h), eqb-true k n e) (get_or_at (listed n p f) (f n) [] d (count n p) (length-listed n p f)))
    (λ e. let lt : k < n = omega (arith, eqb-false k n e) in
    let ih = listed-place n p f k d lt h in
    by (p n)
    (λ t. rw (take p f n t) (get_or-append (listed n p f) (f n ∷ []) d (count k p) (omega (arith, length-listed n p f, count-lt p n k lt h)) ∙ ih))
    (λ t. rw (skip p f n t) ih))

-- where no test is made, f k stands at place k
pub listed_at : {A : Type 0} (n : ℕ) (f : ℕ → A) (k : ℕ) (d : A) → k < n → get_or (listed n (λ i. true) f) k d ≡ f k
listed_at n f k d l = ap (λ (x : ℕ). get_or (listed n (λ i. true) f) x d) (sym (count_all (λ i. true) k (λ j m. refl))) ∙ listed-place n (λ i. true) f k d l refl

-- where no test is made, n are listed
pub length_all : {A : Type 0} (n : ℕ) (f : ℕ → A) → length (listed n (λ i. true) f) ≡ n
length_all n f = length-listed n (λ i. true) f ∙ count_all (λ i. true) n (λ k l. refl)

-- values that rise with the numbers are listed in order
pub listed_sorted : {A : Type 0} (before : A → A → Bool) (n : ℕ) (p : ℕ → Bool) (f : ℕ → A)
    → ((i j : ℕ) → i < j → j < n → p i ≡ true → p j ≡ true → before (f i) (f j) ≡ true) → Sorted before (listed n p f)
unfolding listed
listed_sorted before zero p f h = sorted_none
listed_sorted before (suc n) p f h =
    let ih = listed_sorted before n p f (λ i j l m. h i j l (omega arith)) in
    by (p n)
    (λ t. rw (take p f n t) (sorted_snoc ih (λ y i. let r = (listed_in n p f y).0 i in rw r.3 at (h r.0 n r.1 (omega arith) r.2 t))))
    (λ t. rw (skip p f n t) ih)

-- the numbers that pass are listed rising
pub those-rising : (n : ℕ) (p : ℕ → Bool) → Sorted ltb (those n p)
those-rising n p = listed_sorted ltb n p (λ k. k) (λ i j l m s t. lt-ltb i j l)

-- and none twice
pub those_fresh : (n : ℕ) (p : ℕ → Bool) → NoRepeats (those n p)
those_fresh n p = sorted_fresh (λ x. le-ltb x x (le_refl x)) (those-rising n p)

-- ---- the set of the numbers that pass

-- below n or at n is below n + 1
below_suc : (n k : ℕ) → n ≢ k → ltb k (suc n) ≡ ltb k n
below_suc n k h = same_test (ltb k (suc n)) (ltb k n) (λ e. lt-ltb k n (omega (arith, ltb-true k (suc n) e))) (λ e. lt-ltb k (suc n) (omega (arith, ltb-true k n e)))

set-take : (n : ℕ) (p : ℕ → Bool) → p n ≡ true → set_of (suc n) p ≡ with (set_of n p) n
unfolding set_of
set-take n p h = rw (h, set_of)

set_skip : (n : ℕ) (p : ℕ → Bool) → p n ≡ false → set_of (suc n) p ≡ set_of n p
unfolding set_of
set_skip n p h = rw (h, set_of)

-- its members are the numbers below n that pass
pub has-set_of : (n : ℕ) (p : ℕ → Bool) (k : ℕ) → has (set_of n p) k ≡ ltb k n && p k
unfolding set_of
has-set_of zero p k = has-zero k ∙ sym (ap (λ (b : Bool). b && p k) (le-ltb k 0 (omega arith)))
has-set_of (suc n) p k =
    by (p n)
    (λ t. ap (λ (s : ℕ). has s k) (set-take n p t) ∙ has-with (set_of n p) n k ∙ ap (λ (b : Bool). b || eqb n k) (has-set_of n p k)
    ∙ by (eqb n k)
    (λ e. rw e (or-true (ltb k n && p k) ∙ sym (ap₂ ◌&&◌ (lt-ltb k (suc n) (omega (arith, eqb-true n k e))) (ap p (sym (eqb-true n k e)) ∙ t))))
    (λ e. rw e (or-false (ltb k n && p k) ∙ ap (λ (b : Bool). b && p k) (sym (below_suc n k (eqb-false n k e))))))
    (λ t. ap (λ (s : ℕ). has s k) (set_skip n p t) ∙ has-set_of n p k
    ∙ by (eqb n k)
    (λ e. let f : p k ≡ false = ap p (sym (eqb-true n k e)) ∙ t in rw (f, and-false, and-false))
    (λ e. ap (λ (b : Bool). b && p k) (sym (below_suc n k (eqb-false n k e)))))

-- it stays within n digits
pub set_of-lt : (n : ℕ) (p : ℕ → Bool) → set_of n p < 2 ^ n
set_of-lt n p = below (set_of n p) n (λ k l. has-set_of n p k ∙ ap (λ (b : Bool). b && p k) (le-ltb k n l))

-- a turn of the loop at k whose test r failed adds nothing
pub set_of_skip : (p : ℕ → Bool) (k : ℕ) {r : Bool} → r ≡ p k → r ≡ false → set_of (k + 1) p ≡ set_of k p
set_of_skip p k e h = rw add-one (set_skip k p (sym e ∙ h))

-- a turn whose test passed adds k
pub set_of-take : (p : ℕ → Bool) (k : ℕ) {r : Bool} → r ≡ p k → r ≡ true → set_of (k + 1) p ≡ with (set_of k p) k
set_of-take p k e h = rw add-one (set-take k p (sym e ∙ h))

-- a set below 2 ^ n with these members is this set
pub set_of_is : (n : ℕ) (p : ℕ → Bool) (s : ℕ) → s < 2 ^ n → ((k : ℕ) → k < n → has s k ≡ p k) → s ≡ set_of n p
set_of_is n p s l h = ext s (set_of n p) (λ k. by (ltb k n) (λ t. h k (ltb-true k n t) ∙ sym (has-set_of n p k ∙ ap (λ (b : Bool). b && p k) t)) (λ t. has_above n k l (ltb-false k n t) ∙ sym (has-set_of n p k ∙ ap (λ (b : Bool). b && p k) t)))

-- its size is how many pass
pub size-set_of : (n : ℕ) (p : ℕ → Bool) → size (set_of n p) ≡ count n p
unfolding set_of count
size-set_of zero p = size-zero
size-set_of (suc n) p =
    by (p n)
    (λ t. ap size (set-take n p t) ∙ size-with (set_of n p) n (has_above n n (set_of-lt n p) (le_refl n)) ∙ rw t (ap (λ (x : ℕ). x + 1) (size-set_of n p)))
    (λ t. ap size (set_skip n p t) ∙ rw t (size-set_of n p ∙ omega arith))

-- ---- lists one after another

-- a turn of the loop at k adds the list f k
pub gather_step : {A : Type 0} (k : ℕ) (f : ℕ → List A) → gather (k + 1) f ≡ gather k f ++ f k
unfolding gather
gather_step k f = rw add-one

-- before the first turn nothing is gathered
pub gather-zero : {A : Type 0} (f : ℕ → List A) → gather 0 f ≡ []
unfolding gather
gather-zero f = refl

gather-found : {A : Type 0} (n : ℕ) (f : ℕ → List A) (x : A) → In x (gather n f) → (k : ℕ) × (k < n) × In x (f k)
unfolding gather
gather-found zero f x i = absurd (not-in-nil i)
gather-found (suc n) f x i = ⊎_elim (λ j. let r = gather-found n f x j in (r.0, omega arith, r.2)) (λ j. (n, omega arith, j)) (in-append (gather n f) i)

gather-has : {A : Type 0} (n : ℕ) (f : ℕ → List A) (x : A) (k : ℕ) → k < n → In x (f k) → In x (gather n f)
unfolding gather
gather-has zero f x k l i = absurd (omega arith)
gather-has (suc n) f x k l i =
    by (eqb k n)
    (λ e. Memᴰ.append_right (gather n f) (rw (eqb-true k n e) at i))
    (λ e. Memᴰ.append_left (f n) (gather-has n f x k (omega (arith, eqb-false k n e)) i))

-- the members are those of the lists f k below n
pub gather_in : {A : Type 0} (n : ℕ) (f : ℕ → List A) (x : A) → In x (gather n f) ↔ ((k : ℕ) × (k < n) × In x (f k))
gather_in n f x = (gather-found n f x, λ r. gather-has n f x r.0 r.1 r.2)

-- lists that agree below n are gathered to one
pub gather_ext : {A : Type 0} (n : ℕ) (f g : ℕ → List A) → ((k : ℕ) → k < n → f k ≡ g k) → gather n f ≡ gather n g
unfolding gather
gather_ext zero f g h = refl
gather_ext (suc n) f g h = ap₂ ◌++◌ (gather_ext n f g (λ k l. h k (omega arith))) (h n (omega arith))

-- what is gathered does not grow shorter
pub gather_mono : {A : Type 0} (f : ℕ → List A) (k n : ℕ) → k ≤ n → length (gather k f) ≤ length (gather n f)
unfolding gather
gather_mono f k n h =
    le_ind (λ m. length (gather k f) ≤ length (gather m f)) (le_refl (length (gather k f))) (λ m (l : k ≤ m) ih. omega (arith, length-append (gather m f) (f m))) n h

-- lists of one each are a list of all
pub gather_ones : {A : Type 0} (n : ℕ) (f : ℕ → A) → gather n (λ k. f k ∷ []) ≡ listed n (λ k. true) f
unfolding gather listed
gather_ones zero f = refl
gather_ones (suc n) f = ap (λ l. l ++ (f n ∷ [])) (gather_ones n f)

-- the sum of two lists is the sum of their sums
pub total-append : (l m : List ℕ) → total (l ++ m) ≡ total l + total m
unfolding total
total-append [] m = omega arith
total-append (x ∷ l) m = omega (arith, total-append l m)

-- the lengths add up
pub length-gather : {A : Type 0} (n : ℕ) (f : ℕ → List A) → length (gather n f) ≡ total (listed n (λ k. true) (λ k. length (f k)))
unfolding gather listed total
length-gather zero f = refl
length-gather (suc n) f = length-append (gather n f) (f n) ∙ ap (λ (x : ℕ). x + length (f n)) (length-gather n f) ∙ sym (total-append (listed n (λ k. true) (λ k. length (f k))) (length (f n) ∷ []) ∙ omega arith)

-- ---- the members that pass

module _ {A : Type 0} (p : A → Bool) where
  -- a member that passes is kept
  pub keep-take : (x : A) (l : List A) → p x ≡ true → keep p (x ∷ l) ≡ x ∷ keep p l
  unfolding keep
  keep-take x l h = rw (h, keep)

  -- a member that fails is not
  pub keep_skip : (x : A) (l : List A) → p x ≡ false → keep p (x ∷ l) ≡ keep p l
  unfolding keep
  keep_skip x l h = rw (h, keep)

  -- of no members none is kept
  pub keep-nil : keep p [] ≡ []
  unfolding keep
  keep-nil = refl

  keep-found : (x : A) (l : List A) → In x (keep p l) → In x l × (p x ≡ true)
  unfolding keep
  keep-found x [] i = absurd (not-in-nil i)
  keep-found x (y ∷ l) i =
      by (p y)
      (λ h. first h (λ j. keep-found x l j) (rw (keep-take y l h) at i))
      (λ h. let r = keep-found x l (rw (keep_skip y l h) at i) in (there r.0, r.1))
    where
      first : p y ≡ true → (In x (keep p l) → In x l × (p x ≡ true)) → In x (y ∷ keep p l) → In x (y ∷ l) × (p x ≡ true)
      first h later (here e) = (here e, ap p e ∙ h)
      first h later (there j) = let r = later j in (there r.0, r.1)

  keep-has : (x : A) (l : List A) → In x l → p x ≡ true → In x (keep p l)
  keep-has x (y ∷ l) (here e) h = rw (keep-take y l (ap p (sym e) ∙ h)) (here e)
  keep-has x (y ∷ l) (there i) h = by (p y) (λ t. rw (keep-take y l t) (there (keep-has x l i h))) (λ t. rw (keep_skip y l t) (keep-has x l i h))
  keep-has x [] x3 h = elim x3 [ ]

  -- what is kept are the members that pass
  pub keep_in : (x : A) (l : List A) → In x (keep p l) ↔ (In x l × (p x ≡ true))
  keep_in x l = (keep-found x l, λ r. keep-has x l r.0 r.1)

  -- no more are kept than there are
  pub length-keep : (l : List A) → length (keep p l) ≤ length l
  unfolding keep
  length-keep [] = le_refl 0
  length-keep (x ∷ l) = by (p x) (λ h. rw (keep-take x l h) (omega (arith, length-keep l))) (λ h. rw (keep_skip x l h) (omega (arith, length-keep l)))

  -- what is kept of two lists is kept of each
  pub keep_append : (l m : List A) → keep p (l ++ m) ≡ keep p l ++ keep p m
  unfolding keep
  keep_append [] m = refl
  keep_append (x ∷ l) m =
      by (p x)
      (λ h. keep-take x (l ++ m) h ∙ ap (λ r. x ∷ r) (keep_append l m) ∙ sym (ap (λ r. r ++ keep p m) (keep-take x l h)))
      (λ h. keep_skip x (l ++ m) h ∙ keep_append l m ∙ sym (ap (λ r. r ++ keep p m) (keep_skip x l h)))

  -- where all fail nothing is kept
  pub keep-none : (l : List A) → ((x : A) → In x l → p x ≡ false) → keep p l ≡ []
  unfolding keep
  keep-none [] h = refl
  keep-none (x ∷ l) h = keep_skip x l (h x (here refl)) ∙ keep-none l (λ y i. h y (there i))

  -- where all pass all is kept
  pub keep_all : (l : List A) → ((x : A) → In x l → p x ≡ true) → keep p l ≡ l
  unfolding keep
  keep_all [] h = refl
  keep_all (x ∷ l) h = keep-take x l (h x (here refl)) ∙ ap (λ r. x ∷ r) (keep_all l (λ y i. h y (there i)))

  -- what is kept of the values that a loop lists
  pub keep-listed : (n : ℕ) (q : ℕ → Bool) (f : ℕ → A) → keep p (listed n q f) ≡ listed n (λ k. q k && p (f k)) f
  unfolding listed keep
  keep-listed zero q f = refl
  keep-listed (suc n) q f =
      by (q n)
      (λ t. ap (keep p) (take q f n t) ∙ keep_append (listed n q f) (f n ∷ []) ∙ ap (λ l. l ++ keep p (f n ∷ [])) (keep-listed n q f)
      ∙ by (p (f n))
      (λ u. ap (λ l. listed n (λ k. q k && p (f k)) f ++ l) (keep-take (f n) [] u) ∙ sym (take (λ k. q k && p (f k)) f n (ap₂ ◌&&◌ t u)))
      (λ u. ap (λ l. listed n (λ k. q k && p (f k)) f ++ l) (keep_skip (f n) [] u) ∙ append-nil _ ∙ sym (skip (λ k. q k && p (f k)) f n (ap₂ ◌&&◌ t u))))
      (λ t. ap (keep p) (skip q f n t) ∙ keep-listed n q f ∙ sym (skip (λ k. q k && p (f k)) f n (ap (λ (b : Bool). b && p (f n)) t)))

-- ---- the union of a list of sets

union_found : (l : List ℕ) (k : ℕ) → has (union_of l) k ≡ true → (s : ℕ) × In s l × (has s k ≡ true)
unfolding union_of
union_found [] k e = absurd (true≢false (sym e ∙ has-zero k))
union_found (s ∷ l) k e =
    ⊎_elim (λ h. (s, here refl, h)) (λ h. let r = union_found l k h in (r.0, there r.1, r.2)) (or-one _ _ (sym (has-or s (union_of l) k) ∙ e))

union_has : (s : ℕ) (l : List ℕ) (k : ℕ) → In s l → has s k ≡ true → has (union_of l) k ≡ true
unfolding union_of
union_has s (t ∷ l) k (here e) h = has-or t (union_of l) k ∙ ap (λ (b : Bool). b || has (union_of l) k) (ap (λ (x : ℕ). has x k) (sym e) ∙ h)
union_has s (t ∷ l) k (there i) h = has-or t (union_of l) k ∙ ap (λ (b : Bool). has t k || b) (union_has s l k i h) ∙ or-true (has t k)
union_has s [] k x'' h = elim x'' [ ]

-- its members are those of the sets
pub has-union_of : (l : List ℕ) (k : ℕ) → (has (union_of l) k ≡ true) ↔ ((s : ℕ) × In s l × (has s k ≡ true))
has-union_of l k = (union_found l k, λ r. union_has r.0 l k r.1 r.2)

-- what is kept of a list without repeats is without repeats
pub fresh_keep : {A : Type 0} (p : A → Bool) {l : List A} → NoRepeats l → NoRepeats (keep p l)
fresh_keep p fresh_none = rw (keep-nil p) fresh_none
fresh_keep p (fresh_more {x} {l} n f) =
    by (p x) (λ h. rw (keep-take p x l h) (fresh_more (λ i. n ((keep_in p x l).0 i).0) (fresh_keep p f))) (λ h. rw (keep_skip p x l h) (fresh_keep p f))

-- what is kept of a list in order is in order
pub sorted_keep : {A : Type 0} {before : A → A → Bool} (p : A → Bool) {l : List A} → Sorted before l → Sorted before (keep p l)
sorted_keep p sorted_none = rw (keep-nil p) sorted_none
sorted_keep p (sorted_more {x} {l} h s) =
    by (p x)
    (λ t. rw (keep-take p x l t) (sorted_more (λ y i. h y ((keep_in p y l).0 i).0) (sorted_keep p s)))
    (λ t. rw (keep_skip p x l t) (sorted_keep p s))

-- ---- a list of one value, and a list of values read through a function

-- in a list of one value that value stands everywhere, and it stands for what is past the end
pub get_or-same : {A : Type 0} (n i : ℕ) (x : A) → get_or (replicate n x) i x ≡ x
get_or-same n i x =
    by (ltb i n) (λ t. get_or-replicate n i x x (ltb-true i n t))
    (λ t. get_or-eq_default (replicate n x) x (omega (arith, length-replicate n x, ltb-false i n t)))

-- what stands at a place of a list that is read through f
pub get_or-map : {A B : Type 0} (f : A → B) (l : List A) (i : ℕ) (d : A) (e : B) → f d ≡ e → get_or (map f l) i e ≡ f (get_or l i d)
get_or-map f [] i d e h = sym h
get_or-map f (x ∷ l) zero d e h = refl
get_or-map f (x ∷ l) (suc i) d e h = get_or-map f l i d e h
