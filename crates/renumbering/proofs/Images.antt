-- Sets under new numbers. As many numbers pass a test after renaming as before, so a set keeps its size; sums and parts are carried to
-- sums and parts, and the old numbers give the set back. Assumes nothing.
use mathlib.Core.Path.{◌≡◌, refl, sym, ap, ◌∙◌}
use mathlib.Core.Bool.{Bool, true, ◌&&◌}
use Prim.Native.Nat.{ℕ, ◌^◌, ◌≤◌, ◌<◌}
use native.Mathlib.Nat.{le_antisymm}
use lib.Bits.{bit_xor}
use lib.Dec.{ltb}
use borrow.Author.Tests.{ltb-true, ltb-false, lt-ltb}
use Rattle.sets.specs.Bits.{has, Sub, size}
use Rattle.sets.proofs.Laws.{ext, empty, has-xor, has-zero, has_above}
use Rattle.definitions.specs.Search.{count, set_of}
use Rattle.definitions.specs.Table.{Table, bonds}
use Rattle.definitions.proofs.Tests.{by, and_both}
use Rattle.definitions.proofs.Lists.{those_in, count_ext, has-set_of, set_of-lt, set_of_is, size-set_of}
use Rattle.cycles.proofs.Xor.{and_xor}
use Rattle.renumbering.specs.Renumbered.{Renames, Renumbered}
use Rattle.renumbering.proofs.Matching.{matched_count}

-- a set of numbers below n under new numbers, where g gives the old ones back
unfoldable pub image : ℕ → (ℕ → ℕ) → ℕ → ℕ
image n g s = set_of n (λ j. has s (g j))

-- a bond set of M under the numbers of N
abbrev pub carried : {M N : Table} → Renumbered M N → ℕ → ℕ
carried {M} r = image (bonds M) r.bond⁻¹

-- what renames, read the other way
pub renames_back : {n : ℕ} {f g : ℕ → ℕ} → Renames n f g → Renames n g f
renames_back r = record { forth = r.back; back = r.forth; undone = r.redone; redone = r.undone }

-- different numbers get different ones
pub renames_one : {n : ℕ} {f g : ℕ → ℕ} → Renames n f g → (i j : ℕ) → i < n → j < n → f i ≡ f j → i ≡ j
renames_one {g = g} r i j l m e = sym (r.undone i l) ∙ ap g e ∙ r.undone j m

-- ---- how many pass

-- no more numbers pass a test after renaming: each that does has its old number for a partner
count_renamed_le : {n : ℕ} {f g : ℕ → ℕ} → Renames n f g → (p : ℕ → Bool) → count n (λ j. p (g j)) ≤ count n p
count_renamed_le {n} {f} {g} r p =
    matched_count (λ a b. g a ≡ b) n n (λ j. p (g j)) p
    (record {
      partner = λ a i. let (l, t) = (those_in n (λ j. p (g j)) a).0 i in (g a, (those_in n p (g a)).1 (r.back a l, t), refl);
      one = λ a c b i j e d.
          renames_one (renames_back r) a c ((those_in n (λ j. p (g j)) a).0 i).0 ((those_in n (λ j. p (g j)) c).0 j).0 (e ∙ sym d);
    })

-- as many numbers pass a test after renaming
pub count_renamed : {n : ℕ} {f g : ℕ → ℕ} → Renames n f g → (p : ℕ → Bool) → count n (λ j. p (g j)) ≡ count n p
count_renamed {n} {f} {g} r p =
    le_antisymm (count_renamed_le r p)
    (rw (count_ext n (λ k. p (g (f k))) p (λ k l. ap p (r.undone k l))) at (count_renamed_le (renames_back r) (λ j. p (g j))))

-- ---- the image of a set

module _ {n : ℕ} {f g : ℕ → ℕ} (r : Renames n f g) where
  -- its members are the new numbers of the members
  pub has_image : (s j : ℕ) → has (image n g s) j ≡ ltb j n && has s (g j)
  unfolding image
  has_image s j = has-set_of n (λ k. has s (g k)) j

  -- it stays within n digits
  pub image_lt : (s : ℕ) → image n g s < 2 ^ n
  unfolding image
  image_lt s = set_of-lt n (λ k. has s (g k))

  -- a number below n is a member where its old number was
  pub image_at : (s j : ℕ) → j < n → has (image n g s) j ≡ has s (g j)
  image_at s j l = has_image s j ∙ ap (λ (b : Bool). b && has s (g j)) (lt-ltb j n l)

  -- and its new number is where it was
  pub image_new : (s k : ℕ) → k < n → has (image n g s) (f k) ≡ has s k
  image_new s k l = image_at s (f k) (r.forth k l) ∙ ap (has s) (r.undone k l)

  -- each member is the new number of a member
  pub image_member : (s j : ℕ) → has (image n g s) j ≡ true → (j < n) × (has s (g j) ≡ true)
  image_member s j h =
      let (l, t) = and_both (ltb j n) (has s (g j)) (sym (has_image s j) ∙ h) in
      (ltb-true j n l, t)

  -- the image of a sum is the sum of the images
  pub image_xor : (s t : ℕ) → image n g (bit_xor s t) ≡ bit_xor (image n g s) (image n g t)
  image_xor s t =
      ext _ _ (λ j. simp (has_image, has-xor) (and_xor (ltb j n) (has s (g j)) (has t (g j))))

  -- the image of a part is a part of the image
  pub image_sub : (s t : ℕ) → Sub s t → Sub (image n g s) (image n g t)
  image_sub s t h j i =
      let (l, m) = image_member s j i in
      image_at t j l ∙ h (g j) m

  -- the old numbers give the set back
  pub image_back : (s : ℕ) → s < 2 ^ n → image n f (image n g s) ≡ s
  unfolding image
  image_back s l = sym (set_of_is n (λ k. has (image n g s) (f k)) s l (λ k h. sym (image_new s k h)))

  -- so sets with one image are one
  pub image_one : (s t : ℕ) → s < 2 ^ n → t < 2 ^ n → image n g s ≡ image n g t → s ≡ t
  image_one s t l m e = sym (image_back s l) ∙ ap (image n f) e ∙ image_back t m

  -- and a set with an empty image is empty
  pub image_none : (s : ℕ) → s < 2 ^ n → image n g s ≡ 0 → s ≡ 0
  image_none s l e =
      empty s (λ k. by (ltb k n) (λ t. sym (image_new s k (ltb-true k n t)) ∙ ap (λ (x : ℕ). has x (f k)) e ∙ has-zero (f k))
      (λ t. has_above n k l (ltb-false k n t)))

  -- it has as many members
  pub size_image : (s : ℕ) → s < 2 ^ n → size (image n g s) ≡ size s
  unfolding image
  size_image s l =
      size-set_of n (λ j. has s (g j)) ∙ count_renamed r (has s) ∙ sym (size-set_of n (has s))
      ∙ ap size (sym (set_of_is n (has s) s l (λ k h. refl)))
