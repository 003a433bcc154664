-- The members of a set in rising order, one after another: the least stands first, before those of the set without it. Assumes nothing.
use mathlib.Core.Bool.{Bool, true, false, not, ◌&&◌, and-true, and-false}
use mathlib.Core.List.{List, [], ◌∷◌, ◌++◌}
use mathlib.Core.Path.{◌≡◌, refl, sym, ap, ◌∙◌}
use Prim.Native.Nat.{ℕ, zero, suc, ◌*◌, ◌%◌, ◌^◌, ◌<◌}
use native.Mathlib.Omega.{arith}
use borrow.Author.Tests.{eqb-true, eqb-false, eq-eqb, ne_eqb, ltb-true, ltb-false}
use lib.Bits.{bit_and, bit_xor}
use lib.Count.{count_trailing_zeros}
use lib.Dec.{eqb, ltb}
use lib.ListN.{length, get_or, take, length-append, get_or-append}
use lib.Seq.{get_or_at, take-append_seam}
use mathlib.Core.List.{map-id}
use Rattle.std.specs.Prelude.{Option, Some, None}
use Rattle.std.specs.Iterator.{YieldsFirst, Yields}
use Rattle.std.proofs.lemmas.List.{take-append-le}
use Rattle.std.proofs.lemmas.Iterator.Consumers.{YieldsList-from_first, YieldsList-so_far, YieldsList-turn, YieldsList-end}
use Rattle.sets.specs.Bits.{has, without}
use Rattle.sets.specs.Rising.{rising, left}
use Rattle.sets.specs.declared.rising.Rising.{Rising}
use Rattle.sets.proofs.Laws.{ext, has-zero, has-and, has-pow, has-without, member_below}
use Rattle.sets.proofs.Machine.{one_shl, trailing_member, trailing_none}

-- ---- one number more below the bound

pub rising_take : (m s : ℕ) → has s m ≡ true → rising (suc m) s ≡ rising m s ++ (m ∷ [])
unfolding rising
rising_take m s h = rw (h, rising)

pub rising_skip : (m s : ℕ) → has s m ≡ false → rising (suc m) s ≡ rising m s
unfolding rising
rising_skip m s h = rw (h, rising)

-- ---- none, and the least

pub rising_none : (m s : ℕ) → ((k : ℕ) → k < m → has s k ≡ false) → rising m s ≡ []
unfolding rising
rising_none zero s h = refl
rising_none (suc m) s h = rising_skip m s (h m (omega arith)) ∙ rising_none m s (λ k l. h k (omega arith))

pub rising_empty : (m : ℕ) → rising m 0 ≡ []
rising_empty m = rising_none m 0 (λ k l. has-zero k)

-- another place is a member where it was
without_other : (s k j : ℕ) → (k ≡ j → ⊥) → has (without s k) j ≡ has s j
without_other s k j h = has-without s k j ∙ ap (λ (x : Bool). has s j && not x) (ne_eqb k j h) ∙ and-true (has s j)

pub without_it : (s k : ℕ) → has (without s k) k ≡ false
without_it s k = has-without s k k ∙ ap (λ (x : Bool). has s k && not x) (eq-eqb k k refl) ∙ and-false (has s k)

pub rising_first : (m s k : ℕ) → k < m → has s k ≡ true → ((j : ℕ) → j < k → has s j ≡ false) → rising m s ≡ k ∷ rising m (without s k)
rising_first zero s k l h none = absurd (omega arith)
rising_first (suc m) s k l h none = at (λ b. rising_first m s k b h none) (eqb k m) refl
  where
    more : rising m s ≡ k ∷ rising m (without s k) → k < m → (x : Bool) → has s m ≡ x → rising (suc m) s ≡ k ∷ rising (suc m) (without s k)
    more ih b true e =
        rising_take m s e ∙ ap (λ (l : List ℕ). l ++ (m ∷ [])) ih
        ∙ ap (λ (l : List ℕ). k ∷ l) (sym (rising_take m (without s k) (without_other s k m (λ q. omega arith) ∙ e)))
    more ih b false e =
        rising_skip m s e ∙ ih
        ∙ ap (λ (l : List ℕ). k ∷ l) (sym (rising_skip m (without s k) (without_other s k m (λ q. omega arith) ∙ e)))

    last : k ≡ m → rising (suc m) s ≡ k ∷ rising (suc m) (without s k)
    last q =
        rising_take m s (ap (has s) (sym q) ∙ h) ∙ ap (λ (l : List ℕ). l ++ (m ∷ [])) (rising_none m s (λ j b. none j (omega arith)))
        ∙ ap (λ (x : ℕ). x ∷ []) (sym q)
        ∙ ap (λ (l : List ℕ). k ∷ l) (sym (rising_skip m (without s k) (ap (has (without s k)) (sym q) ∙ without_it s k)
        ∙ rising_none m (without s k) (λ j b. without_other s k j (λ p. omega arith) ∙ none j (omega arith))))

    at : (k < m → rising m s ≡ k ∷ rising m (without s k)) → (x : Bool) → eqb k m ≡ x → rising (suc m) s ≡ k ∷ rising (suc m) (without s k)
    at ih true e = last (eqb-true k m e)
    at ih false e = let b : k < m = omega (arith, eqb-false k m e) in more (ih b) b (has s m) refl

-- ---- as a word holds it: the trailing zeros are the place of the least, and its digit turned takes it out

-- a member's digit is shared
pub and-pow-one : (s k : ℕ) → has s k ≡ true → bit_and s (2 ^ k) ≡ 2 ^ k
and-pow-one s k h = ext _ _ (λ j. has-and s (2 ^ k) j ∙ ap (λ (x : Bool). has s j && x) (has-pow k j) ∙ go j (eqb k j) refl ∙ sym (has-pow k j))
  where
    go : (j : ℕ) (x : Bool) → eqb k j ≡ x → has s j && x ≡ eqb k j
    go j true e = and-true (has s j) ∙ ap (has s) (sym (eqb-true k j e)) ∙ h ∙ sym e
    go j false e = and-false (has s j) ∙ sym e

pub turned_out : (s k : ℕ) → has s k ≡ true → bit_xor s (2 ^ k) ≡ without s k
unfolding without
turned_out s k h = ap (bit_xor s) (sym (and-pow-one s k h))

pub rising_word : (m s : ℕ) → 0 < s → s < 2 ^ m
    → rising m s ≡ count_trailing_zeros m s ∷ rising m (bit_xor s ((1 * 2 ^ count_trailing_zeros m s) % 2 ^ m))
rising_word m s p b =
    let k = count_trailing_zeros m s in
    let h : has s k ≡ true = trailing_member m s p b in
    let l : k < m = member_below m k b h in
    rising_first m s k l h (trailing_none m s)
    ∙ ap (λ (t : ℕ). k ∷ rising m t) (sym (turned_out s k h) ∙ ap (bit_xor s) (sym (one_shl m k l)))

-- ---- a `for` over the members of s below m, after the members xs

-- the turn's member is k: those before it are xs, and there are more than these
pub record Turn (m s : ℕ) (xs : List ℕ) (k : ℕ) : Type 0 where
  pub below : k < m
  pub member : has s k ≡ true
  pub before : xs ≡ rising k s
  pub fewer : length xs < length (rising m s)

-- the member at a place of the list, and those before it
rising_at : (m s i d : ℕ) → i < length (rising m s) → let k = get_or (rising m s) i d in (k < m) × (has s k ≡ true) × (take i (rising m s) ≡ rising k s)
unfolding rising
rising_at zero s i d h = absurd (omega arith)
rising_at (suc m) s i d h = go (rising_at m s i d) (has s m) refl
  where
    go : (i < length (rising m s) → let k = get_or (rising m s) i d in (k < m) × (has s k ≡ true) × (take i (rising m s) ≡ rising k s)) → (x : Bool) → has s m ≡ x
        → let k = get_or (rising (suc m) s) i d in (k < suc m) × (has s k ≡ true) × (take i (rising (suc m) s) ≡ rising k s)
    go ih false e =
        let same = rising_skip m s e in
        let t = ih (omega (arith, ap length same)) in
        rw same (omega (arith, t.0), t.1, t.2)
    go ih true e = at (ltb i (length (rising m s))) refl
      where
        more : rising (suc m) s ≡ rising m s ++ (m ∷ [])
        more = rising_take m s e

        at : (x : Bool) → ltb i (length (rising m s)) ≡ x → let k = get_or (rising (suc m) s) i d in (k < suc m) × (has s k ≡ true) × (take i (rising (suc m) s) ≡ rising k s)
        at true l =
            let b = ltb-true i (length (rising m s)) l in
            let t = ih b in
            rw (more, get_or-append (rising m s) (m ∷ []) d i b, take-append-le i (rising m s) (m ∷ []) (omega arith)) (omega (arith, t.0), t.1, t.2)
        at false l =
            let n = ap length more ∙ length-append (rising m s) (m ∷ []) in
            let q : length (rising m s) ≡ i = omega (arith, n, ltb-false i (length (rising m s)) l) in
            rw (more, get_or_at (rising m s) m [] d i q, ← q) (omega arith, e, take-append_seam (rising m s) (m ∷ []))

module _ (m s : ℕ) (start it after : Rising) (xs : List ℕ) (e : left start ≡ rising m s) (y : Yields (YieldsFirst left) start xs it) {r : Option ℕ} (g : YieldsFirst left it r after) where
  pub turn_of : {k : ℕ} → r ≡ Some k → Turn m s xs k
  turn_of {k} is =
      let all = YieldsList-from_first (λ (x : ℕ). x) left {s = start} (rising m s) e in
      let here = YieldsList-turn all xs it y r after k is g in
      let at = rising_at m s (length xs) k here.0 in
      record {
        below = rw here.1 at.0;
        member = rw here.1 at.1;
        before = sym (map-id xs) ∙ YieldsList-so_far all xs it y ∙ rw here.1 at.2;
        fewer = here.0;
      }

  pub turns_done : r ≡ None → xs ≡ rising m s
  turns_done is = sym (map-id xs) ∙ (YieldsList-end (YieldsList-from_first (λ (x : ℕ). x) left {s = start} (rising m s) e) xs it y r after is g).0
