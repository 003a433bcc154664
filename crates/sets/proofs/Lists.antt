-- Lists of sets as flat lists of words, for any number n of words a set; then of `sets_in`, which is all that crates above need. Assumes nothing.
use mathlib.Core.List.Memᴰ.{head as here}
use mathlib.Core.List.Memᴰ.{tail as there}
use mathlib.Core.List.{List, [], ◌∷◌, ◌++◌, append_assoc, append-nil, Memᴰ as In}
use mathlib.Core.Path.{◌≡◌, refl, sym, ap, ap₂, ◌∙◌}
use mathlib.Core.Bool.{Bool, true, false}
use Prim.Native.Nat.{ℕ, zero, suc, ◌+◌, ◌-◌, ◌*◌, ◌/◌, ◌%◌, ◌^◌, ◌≤◌, ◌<◌, min}
use native.Mathlib.Nat.{div-lt_iff_lt-mul, suc-mul, suc-add, zero-add, zero-mul, mul-div_cancel, div_self, le-div_iff_mul-le, mul-add-div_right, add-sub_of_le, le_refl, le_of_lt, le_of_suc-le-suc, mul-le-mul_right}
use native.Mathlib.Omega.{arith}
use lib.Dec.{leb, lit<}
use borrow.Author.Tests.{leb-true, leb-false}
use lib.ListN.{length, take, drop, get_or, set, length-append, length-drop, take-append-drop, replicate, length-replicate, replicate-append-replicate}
use lib.Pow.{pow-add}
use lib.Seq.{take-add, get_or-drop, length-take-le, take-append-le, drop-append-le, drop-drop, set_split, take_all, sets, sets-eq, length-sets, take_at, drop_at}
use Rattle.sets.specs.Lists.{value_of, words, groups, sets_in, words_of, spread, spread_all, in_words, Put}

-- no member in any word: the empty set
value_none : (n : ℕ) → value_of (replicate n 0) ≡ 0
unfolding value_of
value_none zero = refl
value_none (suc n) = omega (arith, value_none n)

-- ---- the first k groups of n words

module _ (n : ℕ) where
  groups-length : (k : ℕ) (ws : List ℕ) → length (groups n k ws) ≡ k
  unfolding groups
  groups-length zero ws = refl
  groups-length (suc k) ws = ap suc (groups-length k (drop n ws))

  groups-at : (k : ℕ) (ws : List ℕ) (i : ℕ) → i < k → get_or (groups n k ws) i 0 ≡ value_of (take n (drop (i * n) ws))
  unfolding groups
  groups-at zero ws i h = absurd (omega arith)
  groups-at (suc k) ws zero h = ap (λ (m : ℕ). value_of (take n (drop m ws))) (sym (zero-mul n))
  groups-at (suc k) ws (suc i) h =
      groups-at k (drop n ws) i (le_of_suc-le-suc h)
      ∙ ap (λ (l : List ℕ). value_of (take n l)) (drop-drop (i * n) n ws ∙ ap (λ (m : ℕ). drop m ws) (let e : n + i * n ≡ suc i * n = omega (arith, suc-mul i n) in e))

  groups-take : (j k : ℕ) (ws : List ℕ) → j ≤ k → take j (groups n k ws) ≡ groups n j ws
  unfolding groups
  groups-take zero k ws h = refl
  groups-take (suc j) zero ws h = absurd (omega arith)
  groups-take (suc j) (suc k) ws h = ap (λ (l : List ℕ). value_of (take n ws) ∷ l) (groups-take j k (drop n ws) (le_of_suc-le-suc h))

  groups-drop : (j k : ℕ) (ws : List ℕ) → drop j (groups n (j + k) ws) ≡ groups n k (drop (j * n) ws)
  unfolding groups
  groups-drop zero k ws = ap (λ (m : ℕ). groups n m ws) (zero-add k) ∙ ap (λ (m : ℕ). groups n k (drop m ws)) (sym (zero-mul n))
  groups-drop (suc j) k ws =
      ap (λ (m : ℕ). drop (suc j) (groups n m ws)) (suc-add j k) ∙ groups-drop j k (drop n ws)
      ∙ ap (groups n k) (drop-drop (j * n) n ws ∙ ap (λ (m : ℕ). drop m ws) (let e : n + j * n ≡ suc j * n = omega (arith, suc-mul j n) in e))

  groups_front : (k : ℕ) (ws vs : List ℕ) → k * n ≤ length ws → groups n k (ws ++ vs) ≡ groups n k ws
  unfolding groups
  groups_front zero ws vs h = refl
  groups_front (suc k) ws vs h =
      let l : n ≤ length ws = omega (arith, suc-mul k n) in
      ap₂ (λ (a : ℕ) (b : List ℕ). a ∷ b) (ap value_of (take-append-le n ws vs l))
      (ap (groups n k) (drop-append-le n ws vs l) ∙ groups_front k (drop n ws) vs (omega (arith, suc-mul k n, length-drop n ws)))

  groups-append : (k j : ℕ) (ws vs : List ℕ) → length ws ≡ k * n → groups n (k + j) (ws ++ vs) ≡ groups n k ws ++ groups n j vs
  unfolding groups
  groups-append zero j [] vs h = ap (λ (m : ℕ). groups n m vs) (zero-add j)
  groups-append zero j (w ∷ ws) vs h = absurd (omega (arith, zero-mul n))
  groups-append (suc k) j ws vs h =
      let l : n ≤ length ws = omega (arith, suc-mul k n) in
      ap (λ (m : ℕ). groups n m (ws ++ vs)) (suc-add k j)
      ∙ ap₂ (λ (a : ℕ) (b : List ℕ). a ∷ b) (ap value_of (take-append-le n ws vs l))
      (ap (groups n (k + j)) (drop-append-le n ws vs l) ∙ groups-append k j (drop n ws) vs (omega (arith, suc-mul k n, length-drop n ws)))

-- ---- all whole groups

abbrev pub sets_of : ℕ → List ℕ → List ℕ
sets_of n ws = groups n (length ws / n) ws

module _ (n : ℕ) (pos : 0 < n) where
  pub of_length : (ws : List ℕ) → length (sets_of n ws) ≡ length ws / n
  of_length ws = groups-length n (length ws / n) ws

  pub of_at : (ws : List ℕ) (i : ℕ) → i < length ws / n → get_or (sets_of n ws) i 0 ≡ value_of (take n (drop (i * n) ws))
  of_at ws i h = groups-at n (length ws / n) ws i h

  -- so many words have room
  pub of_room : (k : ℕ) (ws : List ℕ) → k ≤ length ws / n → k * n ≤ length ws
  of_room k ws h = (le-div_iff_mul-le pos).0 h

  of_exact : (k : ℕ) (ws : List ℕ) → length ws ≡ k * n → length ws / n ≡ k
  of_exact k ws e = ap (λ (m : ℕ). m / n) e ∙ mul-div_cancel k pos

  pub of_append : (k : ℕ) (ws vs : List ℕ) → length ws ≡ k * n → sets_of n (ws ++ vs) ≡ sets_of n ws ++ sets_of n vs
  of_append k ws vs e =
      ap (λ (m : ℕ). groups n m (ws ++ vs)) (ap (λ (m : ℕ). m / n) (length-append ws vs ∙ ap (λ (m : ℕ). m + length vs) e) ∙ mul-add-div_right pos k (length vs))
      ∙ groups-append n k (length vs / n) ws vs e
      ∙ ap (λ (m : ℕ). groups n m ws ++ sets_of n vs) (sym (of_exact k ws e))

  pub of_take : (k : ℕ) (ws : List ℕ) → k ≤ length ws / n → sets_of n (take (k * n) ws) ≡ take k (sets_of n ws)
  of_take k ws h =
      let l = length-take-le (k * n) ws (of_room k ws h) in
      ap (λ (m : ℕ). groups n m (take (k * n) ws)) (of_exact k (take (k * n) ws) l)
      ∙ sym (groups_front n k (take (k * n) ws) (drop (k * n) ws) (rw l (le_refl (k * n))))
      ∙ ap (groups n k) (take-append-drop (k * n) ws)
      ∙ sym (groups-take n k (length ws / n) ws h)

  pub of_drop : (k : ℕ) (ws : List ℕ) → k ≤ length ws / n → sets_of n (drop (k * n) ws) ≡ drop k (sets_of n ws)
  of_drop k ws h =
      let rest = length ws - k * n in
      let e : length ws / n ≡ k + rest / n = ap (λ (m : ℕ). m / n) (sym (add-sub_of_le (of_room k ws h))) ∙ mul-add-div_right pos k rest in
      ap (λ (m : ℕ). groups n (m / n) (drop (k * n) ws)) (length-drop (k * n) ws)
      ∙ sym (groups-drop n k (rest / n) ws)
      ∙ ap (λ (m : ℕ). drop k (groups n m ws)) (sym e)

  of_one : (vs : List ℕ) → length vs ≡ n → sets_of n vs ≡ value_of vs ∷ []
  unfolding groups
  of_one vs e =
      ap (λ (m : ℕ). groups n m vs) (ap (λ (m : ℕ). m / n) e ∙ div_self pos)
      ∙ ap (λ (l : List ℕ). value_of l ∷ []) (take_all n vs (rw e (le_refl n)))

  pub of_put : (i : ℕ) (ws vs : List ℕ) → i < length ws / n → length vs ≡ n
      → sets_of n (take (i * n) ws ++ vs ++ drop (i * n + n) ws) ≡ set (sets_of n ws) i (value_of vs)
  of_put i ws vs h e =
      let room = of_room (suc i) ws h in
      let front : i * n ≤ length ws = omega (arith, suc-mul i n) in
      ap (sets_of n) (append_assoc (take (i * n) ws) vs (drop (i * n + n) ws))
      ∙ of_append i (take (i * n) ws) (vs ++ drop (i * n + n) ws) (length-take-le (i * n) ws front)
      ∙ ap₂ (λ (a b : List ℕ). a ++ b) (of_take i ws (le_of_lt h))
      (of_append 1 vs (drop (i * n + n) ws) (omega arith)
      ∙ ap₂ (λ (a b : List ℕ). a ++ b) (of_one vs e)
      (ap (λ (m : ℕ). sets_of n (drop m ws)) (let q : i * n + n ≡ suc i * n = omega (arith, suc-mul i n) in q) ∙ of_drop (suc i) ws h))
      ∙ sym (set_split (sets_of n ws) i (value_of vs) (rw (of_length ws) h))

-- ---- the words of numbers

-- each word is below 2 ^ 64
abbrev pub Words : List ℕ → Type 0
Words ws = (i : ℕ) → get_or ws i 0 < 2 ^ 64

spread_value : (vs : List ℕ) → Words vs → spread (length vs) (value_of vs) ≡ vs
unfolding spread value_of
spread_value [] h = refl
spread_value (v ∷ vs) h =
    let low = h 0 in
    ap₂ (λ (a : ℕ) (b : List ℕ). a ∷ b) (let e : (value_of vs * 2 ^ 64 + v) % 2 ^ 64 ≡ v = omega arith in e)
    (ap (spread (length vs)) (let e : (value_of vs * 2 ^ 64 + v) / 2 ^ 64 ≡ value_of vs = omega arith in e) ∙ spread_value vs (λ i. h (suc i)))

spread-one : (n : ℕ) (vs : List ℕ) → Words vs → length vs ≡ n → spread_all n (value_of vs ∷ []) ≡ vs
unfolding spread_all
spread-one n vs h e = append-nil (spread n (value_of vs)) ∙ ap (λ (m : ℕ). spread m (value_of vs)) (sym e) ∙ spread_value vs h

-- ---- the same of `sets_in`: what a crate above this one needs, with no word of how many words a set takes

pub sets-length : (ws : List ℕ) → length (sets_in ws) ≡ length ws / words
unfolding sets_in
sets-length = of_length words (lit< tt)

-- the first n of a list, where n may be more than it has
pub take_min : (n : ℕ) (l : List ℕ) → take (min n (length l)) l ≡ take n l
take_min n l = go (leb n (length l)) refl
  where
    go : (t : Bool) → leb n (length l) ≡ t → take (min n (length l)) l ≡ take n l
    go true e = ap (λ (m : ℕ). take m l) {x = min n (length l)} {y = n} (omega (arith, leb-true n (length l) e))
    go false e =
        let more : length l ≤ n = omega (arith, leb-false n (length l) e) in
        take_all (min n (length l)) l (omega arith) ∙ sym (take_all n l more)

-- lists of as many words have as many sets
pub sets-long : (ws vs : List ℕ) → length ws ≡ length vs → length (sets_in ws) ≡ length (sets_in vs)
sets-long ws vs e = sets-length ws ∙ ap (λ (n : ℕ). n / words) e ∙ sym (sets-length vs)

pub sets-at : (ws : List ℕ) (i : ℕ) → i < length (sets_in ws) → get_or (sets_in ws) i 0 ≡ value_of (take words (drop (i * words) ws))
unfolding sets_in
sets-at ws i h = of_at words (lit< tt) ws i (rw (sets-length ws) at h)

-- a list has room for the words of its sets
pub sets-room : (k : ℕ) (ws : List ℕ) → k ≤ length (sets_in ws) → words_of k ≤ length ws
unfolding words_of
sets-room k ws h = of_room words (lit< tt) k ws (rw (sets-length ws) at h)

pub sets-take : (k : ℕ) (ws : List ℕ) → k ≤ length (sets_in ws) → sets_in (take (words_of k) ws) ≡ take k (sets_in ws)
unfolding sets_in words_of
sets-take k ws h = of_take words (lit< tt) k ws (rw (sets-length ws) at h)

pub sets-drop : (k : ℕ) (ws : List ℕ) → k ≤ length (sets_in ws) → sets_in (drop (words_of k) ws) ≡ drop k (sets_in ws)
unfolding sets_in words_of
sets-drop k ws h = of_drop words (lit< tt) k ws (rw (sets-length ws) at h)

pub sets-append : (k : ℕ) (ws vs : List ℕ) → length ws ≡ words_of k → sets_in (ws ++ vs) ≡ sets_in ws ++ sets_in vs
unfolding sets_in words_of
sets-append = of_append words (lit< tt)

-- an array of words for k sets holds k
pub sets-whole : (k : ℕ) (ws : List ℕ) → length ws ≡ k * words → length (sets_in ws) ≡ k
sets-whole k ws e = sets-length ws ∙ of_exact words (lit< tt) k ws e

-- a set's words stored from its place on
pub sets-put : (i : ℕ) (ws vs : List ℕ) → i < length (sets_in ws) → length vs ≡ words → Words vs → Put ws i (value_of vs) (sets ws (i * words) vs)
unfolding sets_in words_of in_words
sets-put i ws vs h e b =
    let l : i < length ws / words = rw (sets-length ws) at h in
    let room = of_room words (lit< tt) (suc i) ws l in
    let fits : i * words + length vs ≤ length ws = omega (arith, suc-mul i words) in
    record {
      sets = ap sets_in (sets-eq vs ws (i * words) fits ∙ ap (λ (m : ℕ). take (i * words) ws ++ vs ++ drop (i * words + m) ws) e) ∙ of_put words (lit< tt) i ws vs l e;
      long = length-sets ws (i * words) vs;
      list =
          sets-eq vs ws (i * words) fits
          ∙ append_assoc (take (i * words) ws) vs (drop (i * words + length vs) ws)
          ∙ ap₂ (λ (l : List ℕ) (m : ℕ). take (i * words) ws ++ (l ++ drop m ws)) (sym (spread-one words vs b e))
          (let q : i * words + length vs ≡ suc i * words = omega (arith, suc-mul i words) in q);
    }

-- a blank list of words for k sets is k empty sets
abbrev blank : ℕ → List ℕ
blank m = replicate m 0

groups-blank : (n k m : ℕ) → k * n ≤ m → groups n k (blank m) ≡ blank k
unfolding groups
groups-blank n zero m h = refl
groups-blank n (suc k) m h =
    let l : n + (m - n) ≡ m = omega (arith, suc-mul k n) in
    let e : blank m ≡ blank n ++ blank (m - n) = ap blank (sym l) ∙ sym (replicate-append-replicate n (m - n) 0) in
    ap₂ (λ (a : ℕ) (b : List ℕ). a ∷ b)
    (ap value_of (ap (take n) e ∙ take_at (blank n) (blank (m - n)) n (length-replicate n 0)) ∙ value_none n)
    (ap (groups n k) (ap (drop n) e ∙ drop_at (blank n) (blank (m - n)) n (length-replicate n 0)) ∙ groups-blank n k (m - n) (omega (arith, suc-mul k n)))

pub sets-blank : (k : ℕ) → sets_in (replicate (k * words) 0) ≡ replicate k 0
unfolding sets_in
sets-blank k =
    ap (λ (m : ℕ). groups words m (blank (k * words))) (ap (λ (m : ℕ). m / words) (length-replicate (k * words) 0) ∙ mul-div_cancel k (lit< tt))
    ∙ groups-blank words k (k * words) (le_refl (k * words))

-- ---- the words of sets

spread-length : (n s : ℕ) → length (spread n s) ≡ n
unfolding spread
spread-length zero s = refl
spread-length (suc n) s = ap suc (spread-length n (s / 2 ^ 64))

spreads_length : (n : ℕ) (l : List ℕ) → length (spread_all n l) ≡ length l * n
unfolding spread_all
spreads_length n [] = sym (zero-mul n)
spreads_length n (s ∷ l) = length-append (spread n s) (spread_all n l) ∙ omega (arith, spread-length n s, spreads_length n l, suc-mul (length l) n)

-- so many sets take so many words
pub in_words-length : (l : List ℕ) → length (in_words l) ≡ words_of (length l)
unfolding in_words words_of
in_words-length = spreads_length words

spreads_append : (n : ℕ) (l m : List ℕ) → spread_all n (l ++ m) ≡ spread_all n l ++ spread_all n m
unfolding spread_all
spreads_append n [] m = refl
spreads_append n (s ∷ l) m = ap (λ (r : List ℕ). spread n s ++ r) (spreads_append n l m) ∙ sym (append_assoc (spread n s) (spread_all n l) (spread_all n m))

-- one list of sets after another
pub in_words-append : (l m : List ℕ) → in_words (l ++ m) ≡ in_words l ++ in_words m
unfolding in_words
in_words-append = spreads_append words

-- as code has it, which multiplies by WORDS
pub words_are : (k : ℕ) → words_of k ≡ k * words
unfolding words_of
words_are k = refl

-- a set more takes so many words more
pub words_more : (k : ℕ) → words_of (suc k) ≡ words_of k + words
unfolding words_of
words_more k = suc-mul k words ∙ omega arith

pub words-none : words_of 0 ≡ 0
unfolding words_of
words-none = zero-mul words

-- where there are sets there are words
pub words-some : (k : ℕ) → 0 < k → 0 < words_of k
unfolding words_of
words-some k h = omega arith

-- the words from one place up to another are those of the sets between
pub words-between : (from to : ℕ) → words_of to - words_of from ≡ words_of (to - from)
unfolding words_of
words-between from to = omega arith

-- more sets take no fewer words
pub words_mono : (k m : ℕ) → k ≤ m → words_of k ≤ words_of m
unfolding words_of
words_mono k m h = mul-le-mul_right words h

-- where there are no words for so many sets, there are no such sets
pub sets_lack : (k : ℕ) (ws : List ℕ) → length (sets_in ws) < k → length ws < words_of k
unfolding words_of
sets_lack k ws h = omega (arith, sets-length ws)

-- no sets take no words
pub in_words-none : in_words [] ≡ []
unfolding in_words spread_all
in_words-none = refl

value_spread : (n s : ℕ) → s < 2 ^ (n * 64) → value_of (spread n s) ≡ s
unfolding spread value_of
value_spread zero s h = omega (arith, ap (λ (m : ℕ). 2 ^ m) (zero-mul 64))
value_spread (suc n) s h =
    let low : s / 2 ^ 64 < 2 ^ (n * 64) = (div-lt_iff_lt-mul (lit< tt)).1 (rw (pow-add 2 (n * 64) 64) at (rw (suc-mul n 64) at h)) in
    ap (λ (v : ℕ). v * 2 ^ 64 + s % 2 ^ 64) (value_spread n (s / 2 ^ 64) low) ∙ omega arith

module _ (n : ℕ) (pos : 0 < n) where
  spreads_read : (l : List ℕ) → ((s : ℕ) → In s l → s < 2 ^ (n * 64)) → sets_of n (spread_all n l) ≡ l
  unfolding spread_all groups
  spreads_read [] h = ap (λ (k : ℕ). groups n k []) (let e : 0 / n ≡ 0 = of_exact n pos 0 [] (sym (zero-mul n)) in e)
  spreads_read (s ∷ l) h =
      of_append n pos 1 (spread n s) (spread_all n l) (spread-length n s ∙ omega arith)
      ∙ ap₂ (λ (a b : List ℕ). a ++ b) (of_one n pos (spread n s) (spread-length n s) ∙ ap (λ (v : ℕ). v ∷ []) (value_spread n s (h s (here refl))))
      (spreads_read l (λ x i. h x (there i)))

-- the sets of the words of sets are these, if each fits its words
pub sets-in_words : (l : List ℕ) → ((s : ℕ) → In s l → s < 2 ^ (words * 64)) → sets_in (in_words l) ≡ l
unfolding sets_in in_words
sets-in_words = spreads_read words (lit< tt)

words-take : (n : ℕ) (ws : List ℕ) → Words ws → Words (take n ws)
words-take zero ws h i = omega arith
words-take (suc n) [] h i = omega arith
words-take (suc n) (w ∷ ws) h zero = h 0
words-take (suc n) (w ∷ ws) h (suc i) = words-take n ws (λ j. h (suc j)) i

words-drop : (n : ℕ) (ws : List ℕ) → Words ws → Words (drop n ws)
words-drop n ws h i = rw (get_or-drop n ws i 0) (h (n + i))

-- the words of the first k groups are these words
spread_groups : (n k : ℕ) (ws : List ℕ) → Words ws → k * n ≤ length ws → spread_all n (groups n k ws) ≡ take (k * n) ws
unfolding spread_all groups
spread_groups n zero ws h r = ap (λ (m : ℕ). take m ws) (sym (zero-mul n))
spread_groups n (suc k) ws h r =
    let l : n ≤ length ws = omega (arith, suc-mul k n) in
    let one : length (take n ws) ≡ n = length-take-le n ws l in
    ap₂ (λ (a b : List ℕ). a ++ b)
    (ap (λ (m : ℕ). spread m (value_of (take n ws))) (sym one) ∙ spread_value (take n ws) (words-take n ws h))
    (spread_groups n k (drop n ws) (words-drop n ws h) (omega (arith, suc-mul k n, length-drop n ws)))
    ∙ sym (take-add n (k * n) ws)
    ∙ ap (λ (m : ℕ). take m ws) (let e : n + k * n ≡ suc k * n = omega (arith, suc-mul k n) in e)

-- the words of the first k sets of a list are its first words
pub in_words-take : (k : ℕ) (ws : List ℕ) → Words ws → k ≤ length (sets_in ws) → in_words (take k (sets_in ws)) ≡ take (words_of k) ws
unfolding sets_in in_words words_of
in_words-take k ws h r =
    let l : k ≤ length ws / words = rw (sets-length ws) at r in
    ap (spread_all words) (groups-take words k (length ws / words) ws l) ∙ spread_groups words k ws h (of_room words (lit< tt) k ws l)
