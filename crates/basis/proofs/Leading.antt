-- The list that leads each atom to a lower one of its fragment: at the start, on a climb, where an atom is led straight to the first, and
-- after two fragments are made one. Assumes nothing.
use mathlib.Core.Path.{◌≡◌, refl, sym, ap, ◌∙◌}
use mathlib.Core.Logic.{◌⊎◌, inl, inr, ⊎_elim}
use mathlib.Core.Bool.{false}
use mathlib.Core.List.{List, []}
use Prim.Native.Nat.{ℕ, ◌≤◌, ◌<◌, min, max}
use native.Mathlib.Omega.{arith}
use lib.Bits.{bit_xor}
use lib.ListN.{length, get_or, set}
use lib.Seq.{get_or-set_same, get_or-set_other}
use lib.Dec.{eqb}
use borrow.Author.Tests.{eqb-true, eqb-false}
use Rattle.definitions.specs.Table.{Table}
use Rattle.definitions.specs.Basis.{classes, ends_below, fragments}
use Rattle.definitions.proofs.Tests.{by}
use Rattle.definitions.proofs.Classes.{merged, merged_other, merged_either, label_none}
use Rattle.basis.specs.Climbing.{Climbed, Climbs}
use Rattle.basis.specs.Climbing.Climbed.{start, on}

-- of n atoms each leads to one of its own number, and one that leads to itself has itself for its number
pub record Leads (n : ℕ) (lower numbers : List ℕ) : Type 0 where
  pub together : (a : ℕ) → a < n → get_or numbers (get_or lower a 0) 0 ≡ get_or numbers a 0
  pub own : (a : ℕ) → a < n → get_or lower a 0 ≡ a → get_or numbers a 0 ≡ a

-- it leads by equal numbers as well
pub leads-same : {n : ℕ} {lower numbers : List ℕ} (next : List ℕ) → Leads n lower numbers → ((a : ℕ) → get_or next a 0 ≡ get_or numbers a 0) → Leads n lower next
leads-same {lower = lower} next s step = record {
  together = λ a h. step (get_or lower a 0) ∙ s.together a h ∙ sym (step a);
  own = λ a h e. step a ∙ s.own a h e;
}

-- ---- the start: each atom leads to itself

-- with no bond tried each atom is the first of its fragment
pub own_leads : (M : Table) (lower : List ℕ) → ((a : ℕ) → a < M.atoms → get_or lower a 0 ≡ a) → Leads M.atoms lower (fragments M 0)
unfolding fragments ends_below
own_leads M lower own = record {
  together = λ a h. ap (λ (x : ℕ). get_or (classes M.atoms []) x 0) (own a h);
  own = λ a h e. label_none M.atoms a h;
}

-- ---- the climb

-- it goes on, where s is the way of the atom that it has come to
pub climbed-on : {lower ways : List ℕ} {atom a w s r : ℕ} → Climbed lower ways atom a w → get_or lower a 0 < a → s ≡ get_or ways a 0 → r ≡ bit_xor w s
    → Climbed lower ways atom (get_or lower a 0) r
climbed-on c h e f = rw (f, e) (on c h)

-- it comes to lower atoms
pub climbed_low : {lower ways : List ℕ} {atom a w : ℕ} → Climbed lower ways atom a w → a ≤ atom
climbed_low start = omega arith
climbed_low (on c h) = omega (arith, climbed_low c)

-- of the same number
climbed-number : {lower ways numbers : List ℕ} {n atom a w : ℕ} → Leads n lower numbers → atom < n → Climbed lower ways atom a w
    → get_or numbers a 0 ≡ get_or numbers atom 0
climbed-number s l start = refl
climbed-number s l (on {a = a} c h) = s.together a (omega (arith, climbed_low c)) ∙ climbed-number s l c

-- so at the number of the atom
pub climbs_number : {lower ways numbers : List ℕ} {n atom r w : ℕ} → Leads n lower numbers → atom < n → Climbs lower ways atom r w → r ≡ get_or numbers atom 0
climbs_number {r = r} s l c =
    sym (s.own r (omega (arith, climbed_low c.climbed)) c.last) ∙ climbed-number s l c.climbed

-- ---- an atom led straight to the first of its fragment

module _ {n : ℕ} {lower numbers : List ℕ} (s : Leads n lower numbers) {a x : ℕ} (inside : a < length lower) (low : x < n) (last : get_or lower x 0 ≡ x) (number : x ≡ get_or numbers a 0) where
  -- an atom that leads to itself does so still
  pub settled_last : (z : ℕ) → z < n → get_or lower z 0 ≡ z → get_or (set lower a x) z 0 ≡ z
  settled_last z h e =
      by (eqb z a)
      (λ t. rw (eqb-true z a t) (get_or-set_same lower a x 0 inside ∙ number ∙ (rw (eqb-true z a t) at (s.own z h e))))
      (λ t. get_or-set_other lower a z x 0 (eqb-false z a t) ∙ e)

  pub settled_leads : Leads n (set lower a x) numbers
  settled_leads = record {
    together = λ i h.
        by (eqb i a)
        (λ t. rw (eqb-true i a t, get_or-set_same lower a x 0 inside) (s.own x low last ∙ number))
        (λ t. rw (get_or-set_other lower a i x 0 (eqb-false i a t)) (s.together i h));
    own = λ i h e.
        by (eqb i a)
        (λ t. rw (eqb-true i a t) (sym number ∙ sym (get_or-set_same lower a x 0 inside) ∙ (rw (eqb-true i a t) at e)))
        (λ t. s.own i h (sym (get_or-set_other lower a i x 0 (eqb-false i a t)) ∙ e));
  }

-- ---- two fragments made one

-- the larger and the smaller of two are the two
sides : (x y z : ℕ) → (z ≡ max x y) ⊎ (z ≡ min x y) → (z ≡ x) ⊎ (z ≡ y)
sides x y z w =
    by (eqb z x) (λ e. inl (eqb-true z x e)) (λ e. inr (⊎_elim (λ h. omega (arith, eqb-false z x e)) (λ h. omega (arith, eqb-false z x e)) w))

module _ (lower : List ℕ) (x y : ℕ) (inside : max x y < length lower) where
  -- where the first atom of the one leads now, and each other atom
  high : get_or (set lower (max x y) (min x y)) (max x y) 0 ≡ min x y
  high = get_or-set_same lower (max x y) (min x y) 0 inside

  other : (a : ℕ) → eqb a (max x y) ≡ false → get_or (set lower (max x y) (min x y)) a 0 ≡ get_or lower a 0
  other a e = get_or-set_other lower (max x y) a (min x y) 0 (eqb-false a (max x y) e)

  module _ {n : ℕ} {numbers : List ℕ} (s : Leads n lower numbers) (hx : x < n) (hy : y < n) (ex : get_or lower x 0 ≡ x) (ey : get_or lower y 0 ≡ y)
      (next : List ℕ) (step : (a : ℕ) → get_or next a 0 ≡ merged x y (get_or numbers a 0)) where
    -- what holds of both first atoms holds of the lower and of the higher one
    either : (z : ℕ) → (z ≡ max x y) ⊎ (z ≡ min x y) → get_or numbers z 0 ≡ z
    either z w = ⊎_elim (λ e. rw e (s.own x hx ex)) (λ e. rw e (s.own y hy ey)) (sides x y z w)

    -- both first atoms have the number of the lower one
    next_low : (z : ℕ) → (z ≡ max x y) ⊎ (z ≡ min x y) → get_or next z 0 ≡ min x y
    next_low z w = step z ∙ ap (merged x y) (either z w) ∙ merged_either x y z (sides x y z w)

    -- the list leads by the numbers of the fragments that are one
    pub joined_leads : Leads n (set lower (max x y) (min x y)) next
    joined_leads = record {
      together = λ a h.
          by (eqb a (max x y))
          (λ e. rw (eqb-true a (max x y) e, high) (next_low (min x y) (inr refl) ∙ sym (next_low (max x y) (inl refl))))
          (λ e. rw (other a e) (step (get_or lower a 0) ∙ ap (merged x y) (s.together a h) ∙ sym (step a)));
      own = λ a h e.
          by (eqb a (max x y))
          (λ t. rw (eqb-true a (max x y) t) (next_low (max x y) (inl refl) ∙ sym high ∙ (rw (eqb-true a (max x y) t) at e)))
          (λ t. step a ∙ ap (merged x y) (s.own a h (sym (other a t) ∙ e)) ∙ merged_other x y a t);
    }
