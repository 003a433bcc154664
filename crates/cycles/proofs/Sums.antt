-- Sums of sets: the sum of those sets f i, i below n, that a test picks, by its members; and the sums of a list of choices as such
-- sums. Assumes nothing.
use mathlib.Core.Path.{◌≡◌, refl, sym, ap, ap₂, ◌∙◌}
use mathlib.Core.Logic.{◌↔◌}
use mathlib.Core.Bool.{Bool, true, false, cond, ◌&&◌, xor}
use mathlib.Core.List.{List, [], ◌∷◌, ◌++◌}
use Prim.Native.Nat.{ℕ, zero, suc, ◌^◌, ◌≤◌, ◌<◌}
use native.Mathlib.Numerals.{add-one}
use native.Mathlib.Omega.{arith}
use lib.Bits.{bit_xor, xor_lt, xor_zero_l, xor_zero_r}
use lib.Dec.{eqb}
use lib.Pow.{pow_pos}
use borrow.Author.Tests.{eqb-true, eqb-false}
use lib.ListN.{length, get_or, take, get_or-append}
use lib.Seq.{ext_get_or, get_or_at, take-append-le, take-length}
use Rattle.sets.specs.Bits.{has}
use Rattle.sets.proofs.Laws.{has-xor, has-zero, xor_assoc}
use Rattle.definitions.specs.Search.{count, listed}
use Rattle.definitions.specs.Smallest.{chosen, SumOf}
use Rattle.definitions.proofs.Tests.{by, clashes, not_passed, and_both, both_and}
use Rattle.definitions.proofs.Lists.{count_skip, count-take, count_mono, count_find, length-listed, listed_skip, listed-take, listed_ext, listed-place}
use Rattle.cycles.proofs.Parity.{parity}

-- the sum of the sets f i for the numbers i below n that pass q
unfoldable pub sum_below : ℕ → (ℕ → Bool) → (ℕ → ℕ) → ℕ
sum_below zero q f = 0
sum_below (suc n) q f = bit_xor (sum_below n q f) (cond (q n) (f n) 0)

-- a number is in it where an odd number of the sets have it
pub has-sum : (n : ℕ) (q : ℕ → Bool) (f : ℕ → ℕ) (b : ℕ) → has (sum_below n q f) b ≡ parity n (λ i. q i && has (f i) b)
unfolding sum_below parity
has-sum zero q f b = has-zero b
has-sum (suc n) q f b = has-xor (sum_below n q f) (cond (q n) (f n) 0) b ∙ ap₂ xor (has-sum n q f b) (picked (q n))
  where
    picked : (c : Bool) → has (cond c (f n) 0) b ≡ c && has (f n) b
    picked true = refl
    picked false = has-zero b

-- nothing that is picked from k on counts for the sum
pub sum_upto : (k n : ℕ) (q : ℕ → Bool) (f : ℕ → ℕ) → k ≤ n → ((j : ℕ) → k ≤ j → j < n → q j ≡ false) → sum_below n q f ≡ sum_below k q f
unfolding sum_below
sum_upto k zero q f l none = ap (λ (x : ℕ). sum_below x q f) (let e : 0 ≡ k = omega arith in e)
sum_upto k (suc n) q f l none =
    by (eqb k (suc n)) (λ e. ap (λ (x : ℕ). sum_below x q f) (sym (eqb-true k (suc n) e)))
    (λ e. let m : k ≤ n = omega (arith, eqb-false k (suc n) e) in
    ap (λ (x : Bool). bit_xor (sum_below n q f) (cond x (f n) 0)) (none n m (omega arith))
    ∙ xor_zero_r (sum_below n q f) ∙ sum_upto k n q f m (λ j i h. none j i (omega arith)))

-- a sum of sets with members below m has members below m
pub sum_lt : (m n : ℕ) (q : ℕ → Bool) (f : ℕ → ℕ) → ((i : ℕ) → i < n → q i ≡ true → f i < 2 ^ m) → sum_below n q f < 2 ^ m
unfolding sum_below
sum_lt m zero q f h = pow_pos m
sum_lt m (suc n) q f h =
    xor_lt m (sum_below n q f) (cond (q n) (f n) 0) (sum_lt m n q f (λ i l. h i (omega arith)))
    (by (q n) (λ e. rw e (h n (omega arith) e)) (λ e. rw e (pow_pos m)))

-- ---- sums by a list of choices

-- the last choice apart
chosen_snoc : (cs : List Bool) (vs : List ℕ) (c : Bool) (v : ℕ) → length cs ≡ length vs
    → chosen (cs ++ (c ∷ [])) (vs ++ (v ∷ [])) ≡ bit_xor (chosen cs vs) (cond c v 0)
unfolding chosen
chosen_snoc [] [] true v e = xor_zero_r v ∙ sym (xor_zero_l v)
chosen_snoc [] [] false v e = refl
chosen_snoc [] (w ∷ vs) c v e = absurd (omega arith)
chosen_snoc (d ∷ cs) [] c v e = absurd (omega arith)
chosen_snoc (true ∷ cs) (w ∷ vs) c v e =
    ap (bit_xor w) (chosen_snoc cs vs c v (omega arith)) ∙ sym (xor_assoc w (chosen cs vs) (cond c v 0))
chosen_snoc (false ∷ cs) (w ∷ vs) c v e = chosen_snoc cs vs c v (omega arith)

-- the last number that is listed apart
listed-last : {A : Type 0} (n : ℕ) (p : ℕ → Bool) (f : ℕ → A) → p n ≡ true → listed (suc n) p f ≡ listed n p f ++ (f n ∷ [])
listed-last n p f e = ap (λ (x : ℕ). listed x p f) (sym (add-one n)) ∙ listed-take p f n (sym e) refl

-- a number that does not pass is not listed
listed_past : {A : Type 0} (n : ℕ) (p : ℕ → Bool) (f : ℕ → A) → p n ≡ false → listed (suc n) p f ≡ listed n p f
listed_past n p f e = ap (λ (x : ℕ). listed x p f) (sym (add-one n)) ∙ listed_skip p f n (sym e) refl

-- one more is counted where the last number passes
count-last : (n : ℕ) (p : ℕ → Bool) → p n ≡ true → count (suc n) p ≡ suc (count n p)
count-last n p e = ap (λ (x : ℕ). count x p) (sym (add-one n)) ∙ count-take p n (sym e) refl ∙ add-one (count n p)

-- and none where it does not
count_past : (n : ℕ) (p : ℕ → Bool) → p n ≡ false → count (suc n) p ≡ count n p
count_past n p e = ap (λ (x : ℕ). count x p) (sym (add-one n)) ∙ count_skip p n (sym e) refl

-- all the values that are counted
listed-whole : {A : Type 0} (n : ℕ) (p : ℕ → Bool) (f : ℕ → A) → take (count n p) (listed n p f) ≡ listed n p f
listed-whole n p f = ap (λ (x : ℕ). take x (listed n p f)) (sym (length-listed n p f)) ∙ take-length (listed n p f)

-- the values before that of k are those listed below k
pub take-listed : {A : Type 0} (k n : ℕ) (p : ℕ → Bool) (f : ℕ → A) → k ≤ n → take (count k p) (listed n p f) ≡ listed k p f
take-listed k zero p f h =
    let z : k ≡ 0 = omega arith in
    ap (λ (x : ℕ). take (count x p) (listed 0 p f)) z ∙ listed-whole 0 p f ∙ ap (λ (x : ℕ). listed x p f) (sym z)
take-listed {A} k (suc n) p f h =
    by (eqb k (suc n))
    (λ e. ap (λ (x : ℕ). take (count x p) (listed (suc n) p f)) (eqb-true k (suc n) e) ∙ listed-whole (suc n) p f
    ∙ ap (λ (x : ℕ). listed x p f) (sym (eqb-true k (suc n) e)))
    (λ e. let m : k ≤ n = omega (arith, eqb-false k (suc n) e) in
    by (p n)
    (λ t. ap (take (count k p)) (listed-last n p f t)
    ∙ take-append-le (count k p) (listed n p f) (f n ∷ []) (omega (arith, length-listed n p f, count_mono p k n m)) ∙ take-listed k n p f m)
    (λ t. ap (take (count k p)) (listed_past n p f t) ∙ take-listed k n p f m))

-- what is listed of a listed list is listed of the numbers that pass both tests
pub listed-listed : {A : Type 0} (n : ℕ) (p r : ℕ → Bool) (f : ℕ → A) (d : A)
    → listed (count n p) r (λ i. get_or (listed n p f) i d) ≡ listed n (λ k. p k && r (count k p)) f
unfolding listed count
listed-listed zero p r f d = refl
listed-listed {A} (suc n) p r f d =
    let c : ℕ = count n p in
    let l : List A = listed n p f in
    let before : listed c r (λ i. get_or l i d) ≡ listed n (λ k. p k && r (count k p)) f = listed-listed n p r f d in
    by (p n)
    (λ e. let at : ℕ → A = λ i. get_or (l ++ (f n ∷ [])) i d in
    let same : listed c r at ≡ listed c r (λ i. get_or l i d)
    = listed_ext c r r at (λ i. get_or l i d) (λ i h. refl) (λ i h t. get_or-append l (f n ∷ []) d i (omega (arith, length-listed n p f))) in
    ap₂ (λ (x : ℕ) (y : List A). listed x r (λ i. get_or y i d)) (count-last n p e) (listed-last n p f e)
    ∙ by (r c)
    (λ t. listed-last c r at t
    ∙ ap₂ (λ (x : List A) (y : A). x ++ (y ∷ [])) (same ∙ before) (get_or_at l (f n) [] d c (length-listed n p f))
    ∙ sym (listed-last n (λ k. p k && r (count k p)) f (both_and e t)))
    (λ t. listed_past c r at t ∙ same ∙ before ∙ sym (listed_past n (λ k. p k && r (count k p)) f (rw (e, t)))))
    (λ e. ap₂ (λ (x : ℕ) (y : List A). listed x r (λ i. get_or y i d)) (count_past n p e) (listed_past n p f e)
    ∙ before ∙ sym (listed_past n (λ k. p k && r (count k p)) f (rw e)))

-- the choices of q among the listed numbers pick the sum of q
chosen-listed : (n : ℕ) (p q : ℕ → Bool) (f : ℕ → ℕ) → ((i : ℕ) → i < n → q i ≡ true → p i ≡ true)
    → chosen (listed n p q) (listed n p f) ≡ sum_below n q f
unfolding listed sum_below chosen
chosen-listed zero p q f h = refl
chosen-listed (suc n) p q f h =
    let before = chosen-listed n p q f (λ i l. h i (omega arith)) in
    by (p n)
    (λ e. ap₂ chosen (listed-last n p q e) (listed-last n p f e)
    ∙ chosen_snoc (listed n p q) (listed n p f) (q n) (f n) (length-listed n p q ∙ sym (length-listed n p f))
    ∙ ap (λ (x : ℕ). bit_xor x (cond (q n) (f n) 0)) before)
    (λ e. let unpicked = not_passed (q n) (λ t. clashes (h n (omega arith) t) e) in
    ap₂ chosen (listed_past n p q e) (listed_past n p f e)
    ∙ before ∙ sym (ap (λ (x : Bool). bit_xor (sum_below n q f) (cond x (f n) 0)) unpicked ∙ xor_zero_r (sum_below n q f)))

-- a list as long as a listed one is listed too
listed_again : (n : ℕ) (p : ℕ → Bool) (cs : List Bool) → length cs ≡ count n p → cs ≡ listed n p (λ i. get_or cs (count i p) false)
listed_again n p cs e =
    ext_get_or false cs _ (e ∙ sym (length-listed n p _)) (λ j l. place j (count_find p n j (omega arith)))
  where
    place : (j : ℕ) → ((k : ℕ) × (k < n) × (p k ≡ true) × (count k p ≡ j))
        → get_or cs j false ≡ get_or (listed n p (λ i. get_or cs (count i p) false)) j false
    place j (k, l, t, i) = rw (← i) (sym (listed-place n p (λ i. get_or cs (count i p) false) k false l t))

-- a list of choices among listed sets picks the numbers at whose places it says true
abbrev pub picked : (ℕ → Bool) → List Bool → ℕ → Bool
picked p cs k = p k && get_or cs (count k p) false

-- its sum is theirs
pub chosen-picked : (n : ℕ) (p : ℕ → Bool) (f : ℕ → ℕ) (cs : List Bool) → length cs ≡ length (listed n p f)
    → chosen cs (listed n p f) ≡ sum_below n (picked p cs) f
chosen-picked n p f cs e =
    ap (λ (x : List Bool). chosen x (listed n p f))
    (listed_again n p cs (e ∙ length-listed n p f)
    ∙ listed_ext n p p _ (picked p cs) (λ k l. refl) (λ k l t. sym (ap (λ (x : Bool). x && get_or cs (count k p) false) t)))
    ∙ chosen-listed n p (picked p cs) f (λ k l t. (and_both (p k) _ t).0)

-- the sums of listed sets are the sums that a test picks among the listed numbers
pub sum-listed : (n : ℕ) (p : ℕ → Bool) (f : ℕ → ℕ) (s : ℕ)
    → SumOf (listed n p f) s ↔ ((q : ℕ → Bool) × ((k : ℕ) → k < n → q k ≡ true → p k ≡ true) × (sum_below n q f ≡ s))
sum-listed n p f s = (
  λ r. let (cs, e, h) = r in (picked p cs, λ k l t. (and_both (p k) _ t).0, sym (chosen-picked n p f cs e) ∙ h),
  λ r. let (q, inside, e) = r in (listed n p q, length-listed n p q ∙ sym (length-listed n p f), chosen-listed n p q f inside ∙ e),
)
