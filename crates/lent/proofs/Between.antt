-- The items of a list from one place up to another, and those that stand there after others were appended. Assumes nothing.
use mathlib.Core.Path.{◌≡◌, sym, ap, ◌∙◌}
use mathlib.Core.List.Memᴰ
use mathlib.Core.List.{List, [], ◌∷◌, ◌++◌, append_assoc, Memᴰ as In}
use Prim.Native.Nat.{ℕ, ◌+◌, ◌-◌, ◌<◌, ◌≤◌}
use native.Mathlib.Numerals.{add-one}
use native.Mathlib.Omega.{arith}
use lib.ListN.{length, take, drop, get_or, length-append, length-take, length-drop, take-append-drop, drop_of_length-le}
use lib.Seq.{take-suc, take-take, take_at, drop_at, drop-append-le, length-take-le, get_or-take, get_or-drop}
use Rattle.definitions.proofs.Lists.{get_or_in}
use Rattle.lent.specs.Appended.{Appended, between}

-- up to the same place there are none
pub between_none : (i : ℕ) (l : List ℕ) → between i i l ≡ []
between_none i l = drop_of_length-le (take i l) {i = i} (omega (arith, length-take i l))

-- up to the next there is one
pub between-one : (i : ℕ) (l : List ℕ) → i < length l → between i (i + 1) l ≡ get_or l i 0 ∷ []
between-one i l h =
    ap (λ k. drop i (take k l)) (add-one i)
    ∙ ap (drop i) (take-suc l i 0 h)
    ∙ drop_at (take i l) (get_or l i 0 ∷ []) i (length-take-le i l (omega arith))

-- those up to a place and those from it on
pub between_split : (from i to : ℕ) (l : List ℕ) → from ≤ i → i ≤ to → i ≤ length l → between from i l ++ between i to l ≡ between from to l
between_split from i to l f h few =
    sym (drop-append-le from (take i l) (between i to l) (omega (arith, length-take-le i l few)))
    ∙ ap (drop from) (ap (λ m. m ++ between i to l) (sym (take-take i to l h)) ∙ take-append-drop i (take to l))

-- each of them is there
pub between_in : (from i to : ℕ) (l : List ℕ) → from ≤ i → i < to → to ≤ length l → In (get_or l i 0) (between from to l)
between_in from i to l f h few =
    Memᴰ.cast (sym at) (get_or_in (between from to l) (i - from) 0 (omega (arith, length-drop from (take to l), length-take-le to l few)))
  where
    at : get_or (between from to l) (i - from) 0 ≡ get_or l i 0
    at = get_or-drop from (take to l) (i - from) 0 ∙ ap (λ k. get_or (take to l) k 0) {x = from + (i - from)} {y = i} (omega arith) ∙ get_or-take to l i 0 h

-- ---- after others were appended

module _ {before : List ℕ} {n : ℕ} {new after : List ℕ} {r : ℕ} (few : n ≤ length before) (a : Appended before n new after r) where
  front : length (take n before ++ new) ≡ r
  front = length-append (take n before) new ∙ ap (λ (k : ℕ). k + length new) (length-take-le n before few) ∙ sym a.end

  -- the first r are those before and the new ones
  pub appended_take : take r after ≡ take n before ++ new
  appended_take =
      ap (take r) (a.list ∙ sym (append_assoc (take n before) new (drop r before)))
      ∙ take_at (take n before ++ new) (drop r before) r front

  -- those before are as they were
  pub appended_kept : (from to : ℕ) → to ≤ n → between from to after ≡ between from to before
  appended_kept from to h = ap (drop from) (sym (take-take to n after h) ∙ ap (take to) same ∙ take-take to n before h)
    where
      same : take n after ≡ take n before
      same =
          sym (take-take n r after (omega (arith, a.end)))
          ∙ ap (take n) appended_take
          ∙ take_at (take n before) new n (length-take-le n before few)

  -- and after them the new ones stand
  pub appended_new : between n r after ≡ new
  appended_new = ap (drop n) appended_take ∙ drop_at (take n before) new n (length-take-le n before few)
