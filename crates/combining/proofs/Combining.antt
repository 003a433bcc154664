-- The group of a basis ring: it is made of the old sets one by one, and each of its sums is tested against the rings found before it.
-- Assumes nothing.
use mathlib.Core.Path.{◌≡◌, refl, sym, ap, ap₂, ◌∙◌}
use mathlib.Core.Logic.{◌↔◌, ⊎_elim}
use mathlib.Core.Bool.{Bool, true, false, not, ◌||◌, ◌&&◌}
use mathlib.Core.List.Memᴰ
use mathlib.Core.List.Memᴰ.{append_cases as in-append}
use mathlib.Core.List.{List, [], ◌∷◌, ◌++◌, append_assoc, map-append, Memᴰ as In}
use Prim.Native.Nat.{ℕ, suc, ◌+◌, ◌-◌, ◌*◌, ◌%◌, ◌<◌, ◌≤◌}
use native.Mathlib.Numerals.{add-one}
use native.Mathlib.Omega.{arith}
use lib.ListN.{length, take, drop, length-append, length-drop, get_or, set, length-set, get_or-append}
use lib.Seq.{drop_at, drop-drop, take-suc, take-suc-set, get_or-take, length-take-le}
use lib.Bits.{bit_xor}
use borrow.Author.Tests.{not-true}
use Rattle.sets.specs.Bits.{Sub, sub}
use Rattle.sets.specs.Lists.{sets_in, words}
use Rattle.sets.proofs.Lists.{sets-whole, sets-append, sets-length, words_are}
use Rattle.sets.proofs.Size.{sub_test, test_sub}
use Rattle.definitions.specs.Search.{every}
use Rattle.definitions.proofs.Tests.{and_both, not_passed, clashes, every-at, every_of, by}
use Rattle.definitions.proofs.Lists.{get_or_in, in_get_or}
use Rattle.combining.specs.Gibbs.{group, clear?}

-- ---- the group is made: the old sets below place j are summed with the ring

-- the old sets, followed by the sums of the first j of them
pub record Doubling (start : List ℕ) (half ring : ℕ) (sums : List ℕ) (j : ℕ) : Type 0 where
  pub few : half + half ≤ length start
  pub long : length sums ≡ length start
  pub list : take (half + j) sums ≡ take half start ++ group ring (take j start)

module _ {start : List ℕ} {half ring : ℕ} {sums : List ℕ} {j : ℕ} (s : Doubling start half ring sums j) where
  -- an old set is where it was
  old_kept : j < half → get_or sums j 0 ≡ get_or start j 0
  old_kept h =
      sym (get_or-take (half + j) sums j 0 (omega arith))
      ∙ ap (λ l. get_or l j 0) s.list
      ∙ get_or-append (take half start) (group ring (take j start)) 0 j (omega (arith, length-take-le half start (omega (arith, s.few))))
      ∙ get_or-take half start j 0 h

  -- one turn
  pub doubling_more : {w x : ℕ} {end : List ℕ} → j < half → w ≡ get_or sums j 0 → x ≡ bit_xor ring w → end ≡ set sums (half + j) x → Doubling start half ring end (j + 1)
  doubling_more {w} {x} {end} h e q put = record {
    few = s.few;
    long = ap length put ∙ length-set sums (half + j) x ∙ s.long;
    list =
        ap₂ take {x = half + (j + 1)} {y = suc (half + j)} (omega arith) put
        ∙ take-suc-set sums (half + j) x (omega (arith, s.long, s.few))
        ∙ ap (λ l. l ++ x ∷ []) s.list
        ∙ append_assoc (take half start) (group ring (take j start)) (x ∷ [])
        ∙ ap (λ l. take half start ++ l) next;
  }
    where
      next : group ring (take j start) ++ x ∷ [] ≡ group ring (take (j + 1) start)
      next =
          ap (λ y. group ring (take j start) ++ y ∷ []) (q ∙ ap (bit_xor ring) (e ∙ old_kept h))
          ∙ sym (map-append (bit_xor ring) (take j start) (get_or start j 0 ∷ []))
          ∙ ap (group ring) (sym (take-suc start j 0 (omega (arith, s.few))) ∙ ap (λ k. take k start) (sym (add-one j)))

-- ---- a sum is tested against the rings found

-- the test of a set passes where no set of the list lies inside it
pub clear_test : (found : List ℕ) (s : ℕ) → (clear? found s ≡ true) ↔ ((t : ℕ) → In t found → Sub t s → ⊥)
unfolding clear?
clear_test found s = (
  λ h t i inside.
      let (j, l, e) = in_get_or 0 i in
      clashes (sub_test t s inside) (rw e at (not-true (sub (get_or found j 0) s) (every-at (length found) (λ j. not (sub (get_or found j 0) s)) h j l))),
  λ h. every_of (length found) (λ j. not (sub (get_or found j 0) s)) (λ j l.
      ap not (not_passed (sub (get_or found j 0) s) (λ u. h (get_or found j 0) (get_or_in found j 0 l) (test_sub _ s u)))),
)

-- that of a list is that of its first part and of the rest
clear_append : (l m : List ℕ) (s : ℕ) → clear? (l ++ m) s ≡ clear? l s && clear? m s
clear_append l m s =
    by (clear? l s && clear? m s)
    (λ q. let (x, y) = and_both (clear? l s) (clear? m s) q in
    rw q ((clear_test (l ++ m) s).1 (λ t i. ⊎_elim ((clear_test l s).0 x t) ((clear_test m s).0 y t) (in-append l i))))
    (λ q. rw q (not_passed (clear? (l ++ m) s) (λ c.
    let x = (clear_test l s).1 (λ t i. (clear_test (l ++ m) s).0 c t (Memᴰ.append_left m i)) in
    let y = (clear_test m s).1 (λ t i. (clear_test (l ++ m) s).0 c t (Memᴰ.append_right l i)) in
    clashes (ap₂ (λ a b. a && b) x y) q)))

-- that of no ring passes
clear_none : (l : List ℕ) (s : ℕ) → length l ≡ 0 → clear? l s ≡ true
unfolding clear? every
clear_none [] s e = refl
clear_none (x ∷ l) s e = absurd (omega arith)

-- that of one ring is whether it does not lie inside s
clear_one : (l : List ℕ) (s : ℕ) {w : ℕ} {r : Bool} → length l ≡ 1 → w ≡ get_or l 0 0 → r ≡ sub w s → clear? l s ≡ not r
unfolding clear? every
clear_one [] s e is t = absurd (omega arith)
clear_one (x ∷ []) s e is t = rw (t, is) (settled (not (sub x s)))
  where
    settled : (b : Bool) → elim b [ true ↦ true | false ↦ false ] ≡ b
    settled true = refl
    settled false = refl
clear_one (x ∷ y ∷ l) s e is t = absurd (omega arith)

-- that of two is whether neither does
clear_pair : (l : List ℕ) (s : ℕ) {w w' : ℕ} {r r' : Bool} → length l ≡ 2 → w ≡ get_or l 0 0 → w' ≡ get_or l 1 0 → r ≡ sub w s → r' ≡ sub w' s
    → clear? l s ≡ not (r || r')
clear_pair [] s e i j t u = absurd (omega arith)
clear_pair (x ∷ []) s e i j t u = absurd (omega arith)
clear_pair (x ∷ y ∷ []) s {r = r} {r' = r'} e i j t u =
    clear_append (x ∷ []) (y ∷ []) s ∙ ap₂ (λ a b. a && b) (clear_one (x ∷ []) s refl i t) (clear_one (y ∷ []) s refl j u) ∙ neither r r'
  where
    neither : (a b : Bool) → not a && not b ≡ not (a || b)
    neither true b = refl
    neither false b = refl
clear_pair (x ∷ y ∷ z ∷ l) s e i j t u = absurd (omega arith)

-- the words that are left of a list, from which two sets are taken in a turn: its sets decide, and their end is the last words of the list
pub record Left (ws : List ℕ) (s size : ℕ) (rest last : List ℕ) : Type 0 where
  pub two : size ≡ 2 * words
  pub same : clear? (sets_in rest) s ≡ clear? (sets_in ws) s
  pub end : last ≡ drop (length rest - length rest % (2 * words)) rest

module _ {ws : List ℕ} {s size : ℕ} {rest last : List ℕ} (h : Left ws s size rest last) where
  module _ (pair rest' : List ℕ) (e : rest ≡ pair ++ rest') (long : length pair ≡ size) where
    -- the pair has two sets
    pub pair_two : length (sets_in pair) ≡ 2
    pair_two = sets-whole 2 pair (long ∙ h.two)

    module _ {w w' : ℕ} {r r' : Bool} (i : w ≡ get_or (sets_in pair) 0 0) (j : w' ≡ get_or (sets_in pair) 1 0) (t : r ≡ sub w s) (u : r' ≡ sub w' s) where
      parts : clear? (sets_in ws) s ≡ not (r || r') && clear? (sets_in rest') s
      parts =
          sym h.same
          ∙ ap (λ l. clear? l s) (ap sets_in e ∙ sets-append 2 pair rest' (long ∙ h.two ∙ sym (words_are 2)))
          ∙ clear_append (sets_in pair) (sets_in rest') s
          ∙ ap (λ b. b && clear? (sets_in rest') s) (clear_pair (sets_in pair) s pair_two i j t u)

      -- one of them lies inside s
      pub left_broken : r || r' ≡ true → false ≡ clear? (sets_in ws) s
      left_broken q = sym (rw q at parts)

      -- neither does
      pub left_more : {size' : ℕ} → r || r' ≡ false → size' ≡ size → Left ws s size' rest' last
      left_more q a = rw a (record {
        two = h.two;
        same = sym (rw q at parts);
        end = h.end ∙ ap (λ l. drop (length l - length l % (2 * words)) l) e ∙ ap (λ k. drop k (pair ++ rest')) back ∙ sym (drop-drop (length rest' - length rest' % (2 * words)) (length pair) (pair ++ rest')) ∙ ap (drop (length rest' - length rest' % (2 * words))) (drop_at pair rest' (length pair) refl);
      })
        where
          back : length (pair ++ rest') - length (pair ++ rest') % (2 * words) ≡ length pair + (length rest' - length rest' % (2 * words))
          back = omega (arith, length-append pair rest', h.two, long)

  -- at the end the last words are left
  module _ (few : length rest < size) where
    left_last : clear? (sets_in last) s ≡ clear? (sets_in ws) s
    left_last = ap (λ l. clear? (sets_in l) s) (h.end ∙ ap (λ k. drop k rest) (let z : length rest - length rest % (2 * words) ≡ 0 = omega (arith, h.two) in z)) ∙ h.same

    one_at_most : length (sets_in last) ≤ 1
    one_at_most = omega (arith, sets-length last, ap length h.end, length-drop (length rest - length rest % (2 * words)) rest, h.two)

    -- which have one set
    pub left_one : {w : ℕ} {r : Bool} → 0 < length (sets_in last) → w ≡ get_or (sets_in last) 0 0 → r ≡ sub w s → not r ≡ clear? (sets_in ws) s
    left_one some i t = sym (clear_one (sets_in last) s (omega (arith, one_at_most)) i t) ∙ left_last

    -- or none
    pub left_all : length (sets_in last) ≤ 0 → true ≡ clear? (sets_in ws) s
    left_all none = sym (clear_none (sets_in last) s (omega arith)) ∙ left_last
