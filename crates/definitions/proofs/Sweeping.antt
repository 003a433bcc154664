-- The sweeps of the reduced basis. A sweep changes nothing or lowers the total size, so the sweeps come to an end, and there one sweep
-- more changes nothing. Assumes nothing.
use mathlib.Core.Bool.{Bool, true, false, ◌||◌, cond, true≢false, false≢true}
use mathlib.Core.List.{List, [], ◌∷◌}
use mathlib.Core.Logic.{◌⊎◌, inl, inr, ⊎_elim}
use mathlib.Core.Path.{◌≡◌, refl, sym, ap, ◌∙◌, subst}
use Prim.Native.Nat.{ℕ, zero, suc, ◌+◌, ◌-◌, ◌≤◌, ◌<◌}
use native.Mathlib.Omega.{arith}
use borrow.Author.Tests.{ltb-true}
use lib.Bits.{bit_xor}
use lib.Dec.{ltb}
use lib.ListN.{length, get_or, set, length-set}
use lib.Seq.{set-get_or, get_or-set_other}
use Rattle.sets.specs.Bits.{size}
use Rattle.definitions.specs.Search.{total}
use Rattle.definitions.specs.Reduced.{exchange, along, across, sweep, same?, sweeps, weight, reduced}
use Rattle.definitions.proofs.Tests.{by, not_passed}
use Rattle.definitions.proofs.Lists.{same_lists, lists_same}

-- ---- the total size

-- a set in the place of another changes the total by their sizes
pub weight-set : (l : List ℕ) (k x : ℕ) → k < length l → weight (set l k x) + size (get_or l k 0) ≡ weight l + size x
unfolding weight total
weight-set [] k x h = absurd (omega arith)
weight-set (y ∷ l) zero x h = omega arith
weight-set (y ∷ l) (suc k) x h = omega (arith, weight-set l k x (omega arith))

-- two sets in the places of two others change it by the sizes of all four
pub weight_both : (l : List ℕ) (J I x y : ℕ) → J < I → I < length l
    → weight (set (set l I x) J y) + (size (get_or l I 0) + size (get_or l J 0)) ≡ weight l + (size x + size y)
weight_both l J I x y h k =
    omega (
      arith,
      weight-set l I x k,
      weight-set (set l I x) J y (rw length-set (omega arith)),
      ap size (get_or-set_other l I J x 0 (λ e. omega arith)),
    )

-- ---- what an exchange, the pairs of a set and a sweep do to the total

-- m is l, or has a lower total than l
abbrev pub Falls : List ℕ → List ℕ → Type 0
Falls l m = (m ≡ l) ⊎ (weight m < weight l)

-- what falls from l to m and from m to n falls from l to n
pub falls_trans : {l m n : List ℕ} → Falls l m → Falls m n → Falls l n
falls_trans {n = n} (inl e) f = subst (λ (x : List ℕ). Falls x n) e f
falls_trans (inr h) (inl e) = inr (omega (arith, ap weight e))
falls_trans (inr h) (inr k) = inr (omega arith)

-- an exchange keeps the number of sets
pub exchange-length : (l : List ℕ) (J I : ℕ) → length (exchange l J I) ≡ length l
unfolding exchange
exchange-length l J I = simp length-set

-- the exchange at (J, I) changes something: the sum is smaller than set I, or what is left over is smaller than set J
unfoldable pub exchanges? : List ℕ → ℕ → ℕ → Bool
exchanges? l J I =
    let j = get_or l J 0 in
    let i = get_or l I 0 in
    let x = bit_xor j i in
    let swap = ltb (size x) (size i) in
    swap || ltb (size (cond swap i x)) (size j)

module _ (l : List ℕ) (J I : ℕ) where
  -- the one set, the other and their sum
  abbrev j : ℕ
  j = get_or l J 0

  abbrev i : ℕ
  i = get_or l I 0

  abbrev x : ℕ
  x = bit_xor j i

  -- an exchange that changes something lowers the total
  pub exchange_lowers : J < I → I < length l → exchanges? l J I ≡ true → weight (exchange l J I) < weight l
  unfolding exchange exchanges?
  exchange_lowers h k e = go (ltb (size x) (size i)) refl (ltb (size (cond (ltb (size x) (size i)) i x)) (size j)) refl e
    where
      go : (s : Bool) → ltb (size x) (size i) ≡ s → (t : Bool) → ltb (size (cond s i x)) (size j) ≡ t → s || t ≡ true
          → weight (set (set l I (cond s x i)) J (cond t (cond s i x) j)) < weight l
      go true p true q e = omega (arith, weight_both l J I x i h k, ltb-true (size x) (size i) p, ltb-true (size i) (size j) q)
      go true p false q e = omega (arith, weight_both l J I x j h k, ltb-true (size x) (size i) p)
      go false p true q e = omega (arith, weight_both l J I i x h k, ltb-true (size x) (size j) q)
      go false p false q e = absurd (false≢true e)

  -- one that changes nothing leaves the list
  pub exchange_stays : exchanges? l J I ≡ false → exchange l J I ≡ l
  unfolding exchange exchanges?
  exchange_stays e = go (ltb (size x) (size i)) (ltb (size (cond (ltb (size x) (size i)) i x)) (size j)) e
    where
      go : (s t : Bool) → s || t ≡ false → set (set l I (cond s x i)) J (cond t (cond s i x) j) ≡ l
      go true t e = absurd (true≢false e)
      go false true e = absurd (true≢false e)
      go false false e = ap (λ (m : List ℕ). set m J j) (set-get_or l I 0) ∙ set-get_or l J 0

-- an exchange changes nothing or lowers the total
pub exchange_falls : (l : List ℕ) (J I : ℕ) → J < I → I < length l → Falls l (exchange l J I)
exchange_falls l J I h k = by (exchanges? l J I) (λ e. inr (exchange_lowers l J I h k e)) (λ e. inl (exchange_stays l J I e))

-- the pairs of one set keep the number of sets
pub along-length : (J I n : ℕ) (l : List ℕ) → length (along J I n l) ≡ length l
unfolding along
along-length J I zero l = refl
along-length J I (suc n) l = along-length J (I + 1) n (exchange l J I) ∙ exchange-length l J I

-- the pairs of one set change nothing or lower the total
pub along_falls : (J I n : ℕ) (l : List ℕ) → J < I → I + n ≤ length l → Falls l (along J I n l)
unfolding along
along_falls J I zero l h k = inl refl
along_falls J I (suc n) l h k =
    falls_trans (exchange_falls l J I h (omega arith))
    (along_falls J (I + 1) n (exchange l J I) (omega arith) (omega (arith, exchange-length l J I)))

-- the pairs of one set after another keep the number of sets
pub across-length : (J n : ℕ) (l : List ℕ) → length (across J n l) ≡ length l
unfolding across
across-length J zero l = refl
across-length J (suc n) l = across-length (J + 1) n (along J (J + 1) n l) ∙ along-length J (J + 1) n l

-- the pairs of one set after another change nothing or lower the total
pub across_falls : (J n : ℕ) (l : List ℕ) → J + n ≤ length l → Falls l (across J n l)
unfolding across
across_falls J zero l h = inl refl
across_falls J (suc n) l h =
    falls_trans (along_falls J (J + 1) n l (omega arith) (omega arith))
    (across_falls (J + 1) n (along J (J + 1) n l) (omega (arith, along-length J (J + 1) n l)))

-- a sweep keeps the number of sets
pub sweep-length : (l : List ℕ) → length (sweep l) ≡ length l
sweep-length l = across-length 0 (length l) l

-- a sweep changes nothing or lowers the total
pub sweep_falls : (l : List ℕ) → (sweep l ≡ l) ⊎ (weight (sweep l) < weight l)
sweep_falls l = across_falls 0 (length l) l (omega arith)

-- a list of a lower total is another list
pub lower_differs : (l m : List ℕ) → weight m < weight l → same? m l ≡ false
lower_differs l m h = not_passed (same? m l) (λ e. omega (arith, ap weight (same_lists m l e)))

-- ---- the pairs one by one: a loop over I below n, and one over J

-- below n, the pairs from I on are the pair at I and those from I + 1 on
pub along-on : (J I n : ℕ) (l : List ℕ) → I < n → along J I (n - I) l ≡ along J (I + 1) (n - (I + 1)) (exchange l J I)
unfolding along
along-on J I n l h = ap (λ (k : ℕ). along J I k l) (let e : n - I ≡ suc (n - (I + 1)) = omega arith in e)

-- from n on there are none
pub along-over : (J I n : ℕ) (l : List ℕ) → n ≤ I → along J I (n - I) l ≡ l
unfolding along
along-over J I n l h = ap (λ (k : ℕ). along J I k l) (let e : n - I ≡ 0 = omega arith in e)

-- below n, the pairs of the sets from J on are those of J and those of the sets from J + 1 on
pub across-on : (J n : ℕ) (l : List ℕ) → J < n → across J (n - J) l ≡ across (J + 1) (n - (J + 1)) (along J (J + 1) (n - (J + 1)) l)
unfolding across
across-on J n l h = ap (λ (k : ℕ). across J k l) (let e : n - J ≡ suc (n - (J + 1)) = omega arith in e)

-- from n on there are none
pub across-over : (J n : ℕ) (l : List ℕ) → n ≤ J → across J (n - J) l ≡ l
unfolding across
across-over J n l h = ap (λ (k : ℕ). across J k l) (let e : n - J ≡ 0 = omega arith in e)

-- ---- the sweeps end

-- where a sweep changes nothing the sweeps are over
pub sweeps_still : (n : ℕ) (l : List ℕ) → sweep l ≡ l → sweeps n l ≡ l
unfolding sweeps
sweeps_still zero l e = refl
sweeps_still (suc n) l e =
    ap (λ (t : Bool). elim t [ true ↦ l | false ↦ sweeps n (sweep l) ]) (lists_same (sweep l) l e)

-- where it lowers the total they go on
pub sweeps-on : (n : ℕ) (l : List ℕ) → weight (sweep l) < weight l → sweeps (suc n) l ≡ sweeps n (sweep l)
unfolding sweeps
sweeps-on n l h = ap (λ (t : Bool). elim t [ true ↦ l | false ↦ sweeps n (sweep l) ]) (lower_differs l (sweep l) h)

-- the sweeps keep the number of sets
sweeps-length : (n : ℕ) (l : List ℕ) → length (sweeps n l) ≡ length l
unfolding sweeps
sweeps-length zero l = refl
sweeps-length (suc n) l =
    ⊎_elim (λ e. ap length (sweeps_still (suc n) l e))
    (λ h. ap length (sweeps-on n l h) ∙ sweeps-length n (sweep l) ∙ sweep-length l) (sweep_falls l)

-- with no fewer turns than the total, the last list is unchanged by a sweep
sweeps_fixed : (n : ℕ) (l : List ℕ) → weight l ≤ n → sweep (sweeps n l) ≡ sweeps n l
unfolding sweeps
sweeps_fixed zero l h = ⊎_elim (λ e. e) (λ k. absurd (omega arith)) (sweep_falls l)
sweeps_fixed (suc n) l h =
    ⊎_elim (λ e. ap sweep (sweeps_still (suc n) l e) ∙ e ∙ sym (sweeps_still (suc n) l e))
    (λ k. ap sweep (sweeps-on n l k) ∙ sweeps_fixed n (sweep l) (omega arith) ∙ sym (sweeps-on n l k)) (sweep_falls l)

-- with no fewer turns than the total, any number of turns gives the same list
sweeps_enough : (m n : ℕ) (l : List ℕ) → weight l ≤ m → weight l ≤ n → sweeps m l ≡ sweeps n l
sweeps_enough zero n l h k =
    ⊎_elim (λ e. sweeps_still zero l e ∙ sym (sweeps_still n l e)) (λ f. absurd (omega arith)) (sweep_falls l)
sweeps_enough (suc m) zero l h k =
    ⊎_elim (λ e. sweeps_still (suc m) l e ∙ sym (sweeps_still zero l e)) (λ f. absurd (omega arith)) (sweep_falls l)
sweeps_enough (suc m) (suc n) l h k =
    ⊎_elim (λ e. sweeps_still (suc m) l e ∙ sym (sweeps_still (suc n) l e))
    (λ f. sweeps-on m l f ∙ sweeps_enough m n (sweep l) (omega arith) (omega arith) ∙ sym (sweeps-on n l f)) (sweep_falls l)

-- ---- the reduced list

-- the reduced list has as many sets as the list
pub reduced-length : (l : List ℕ) → length (reduced l) ≡ length l
unfolding reduced
reduced-length l = sweeps-length (weight l) l

-- the sweeps have turns enough: the result is unchanged by one sweep more
pub reduced_fixed : (l : List ℕ) → sweep (reduced l) ≡ reduced l
unfolding reduced
reduced_fixed l = sweeps_fixed (weight l) l (omega arith)

-- a list that a sweep leaves as it is is its own reduced list
pub reduced_still : (l : List ℕ) → sweep l ≡ l → reduced l ≡ l
unfolding reduced
reduced_still l e = sweeps_still (weight l) l e

-- a sweep leads to the same reduced list
pub reduced-sweep : (l : List ℕ) → reduced (sweep l) ≡ reduced l
unfolding reduced
reduced-sweep l =
    ⊎_elim (λ e. ap (λ (m : List ℕ). sweeps (weight m) m) e)
    (λ h. sweeps_enough (weight (sweep l)) (weight l) (sweep l) (omega arith) (omega arith) ∙ sym (sweeps-on (weight l) l h) ∙ sweeps_enough (suc (weight l)) (weight l) l (omega arith) (omega arith))
    (sweep_falls l)
