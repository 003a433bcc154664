-- What a walk round a bond set is: a round over all its bonds, so no atom and no bond stands twice in it and the set is a ring; and there
-- is no other. Assumes nothing.
use mathlib.Core.Path.{◌≡◌, refl, sym, ap, ◌∙◌}
use mathlib.Core.Logic.{◌≢◌, ◌↔◌, ◌⊎◌, inl, inr}
use mathlib.Core.Bool.{Bool, true, cond}
use mathlib.Core.List.{List, Memᴰ as In}
use Prim.Native.Nat.{ℕ, zero, suc, ◌-◌, ◌≤◌, ◌<◌, min}
use native.Mathlib.Nat.{pos_of_ne-zero, le_antisymm}
use native.Mathlib.Omega.{arith}
use lib.Dec.{eqb}
use lib.ListN.{get_or}
use lib.Seq.{ext_get_or}
use borrow.Author.Tests.{eqb-true, eqb-false, eq-eqb, ne_eqb}
use Rattle.sets.specs.Bits.{has, size}
use Rattle.sets.proofs.Size.{size_none}
use Rattle.definitions.specs.Table.{Table, tail, head}
use Rattle.definitions.specs.Ring.{Ring}
use Rattle.definitions.specs.Walk.{after, At, Walk}
use Rattle.definitions.proofs.Tests.{by}
use Rattle.definitions.proofs.Lists.{in_get_or, get_or_in}
use Rattle.definitions.proofs.Refusals.{Valid}
use Rattle.cycles.proofs.Evens.{member-some}
use Rattle.walking.proofs.Apart.{Differ}
use Rattle.walking.proofs.Bonds.{joins_other}
use Rattle.walking.proofs.Rounds.{Trail, Round, round_bonds, whole-found, whole-ring}
use Rattle.walking.proofs.Returns.{two_round}

-- the place after a place below the last
after_low : (n i : ℕ) → suc i < n → after n i ≡ suc i
after_low n i l = ap (λ (b : Bool). cond b 0 (suc i)) (ne_eqb (suc i) n (λ e. omega arith))

-- what stands at place i of a list of n, and past the last the first
abbrev around : ℕ → List ℕ → ℕ → ℕ
around n l i = get_or l (cond (eqb i n) 0 i) 0

-- below n it is what the list has
around_low : (n : ℕ) (l : List ℕ) (i : ℕ) → i < n → around n l i ≡ get_or l i 0
around_low n l i h = ap (λ (b : Bool). get_or l (cond b 0 i) 0) (ne_eqb i n (λ e. omega arith))

-- at n it is the first
around_end : (n : ℕ) (l : List ℕ) → around n l n ≡ get_or l 0 0
around_end n l = ap (λ (b : Bool). get_or l (cond b 0 n) 0) (eq-eqb n n refl)

-- where these differ, what the list has at two places differs
around_apart : (n : ℕ) (l : List ℕ) → Differ (around n l) n → Differ (λ i. get_or l i 0) n
around_apart n l d i j h m e = d i j h m (around_low n l i (omega arith) ∙ e ∙ sym (around_low n l j m))

module _ {M : Table} (valid : Valid M) {s : ℕ} {vs ks : List ℕ} (w : Walk M s vs ks) where
  -- the set is not empty
  some : 0 < size s
  some = pos_of_ne-zero (λ z. member-some (get_or ks 0 0) w.first.0 (size_none s z))

  -- its atoms and its bonds in order, and the first ones again
  abbrev A : ℕ → ℕ
  A = around (size s) vs

  abbrev B : ℕ → ℕ
  B = around (size s) ks

  -- a walk is a trail
  trail : Trail M s A B (size s)
  trail = record {
    at = at;
    joins = λ i l. rw (around_low (size s) ks i l, around_low (size s) vs i l) (w.leads i l);
    turns = λ i l. rw (around_low (size s) ks i l) ((w.other i l (B (suc i))).1 refl).1;
  }
    where
      at : (i : ℕ) → i ≤ size s → At M s (A i) (B i)
      at zero l =
          let e : suc (size s - 1) ≡ size s = omega (arith, some) in
          rw (around_low (size s) ks 0 some, around_low (size s) vs 0 some)
          (rw (e, around_end (size s) vs, around_end (size s) ks) at ((w.other (size s - 1) (omega (arith, some)) (B (suc (size s - 1)))).1 refl).0)
      at (suc i) l = ((w.other i (omega arith) (B (suc i))).1 refl).0

  -- so it is a round
  round : Round M s A B (size s)
  round = two_round valid trail two some (around_end (size s) vs ∙ sym (around_low (size s) vs 0 some)) not-before
    where
      two : (i : ℕ) → i < size s → (k : ℕ) → At M s (A (suc i)) k → (k ≡ B i) ⊎ (k ≡ B (suc i))
      two i l k m =
          by (eqb k (B i)) (λ t. inl (eqb-true k (B i) t))
          (λ t. inr ((w.other i l k).0 (m, λ q. eqb-false k (B i) t (q ∙ sym (around_low (size s) ks i l)))))

      not-before : (i : ℕ) → 0 < i → i < size s → A i ≢ A 0
      not-before i l m = rw (around_low (size s) vs i m, around_low (size s) vs 0 some) (w.not-before i l m)

  -- and the set is a ring
  pub walk-ring : Ring M s
  walk-ring = whole-ring valid round

  -- no atom stands twice in it
  pub walk-atoms_once : (i j : ℕ) → i < j → j < size s → get_or vs i 0 ≢ get_or vs j 0
  walk-atoms_once = around_apart (size s) vs round.apart

  -- no bond does
  pub walk-bonds_once : (i j : ℕ) → i < j → j < size s → get_or ks i 0 ≢ get_or ks j 0
  walk-bonds_once = around_apart (size s) ks (round_bonds valid round)

  -- and its bonds are those of the set
  pub walk-bonds_all : (k : ℕ) → In k ks ↔ (has s k ≡ true)
  walk-bonds_all k = (
    λ m. let (i, l, e) = in_get_or 0 m in
        let b : i < size s = omega (arith, w.as_many-bonds) in
        ap (has s) (sym e ∙ sym (around_low (size s) ks i b)) ∙ (trail.at i (omega arith)).1,
    λ h. let (i, l, e) = whole-found valid round k h in
        rw (sym (around_low (size s) ks i l) ∙ e) at (get_or_in ks i 0 (omega (arith, w.as_many-bonds))),
  )

  -- another walk has the same atom and the same bond at each place: both start alike, and a place leaves no choice of the next
  same : {us js : List ℕ} → Walk M s us js → (i : ℕ) → i < size s → (get_or vs i 0 ≡ get_or us i 0) × (get_or ks i 0 ≡ get_or js i 0)
  same {us} {js} v zero l =
      let e : get_or ks 0 0 ≡ get_or js 0 0 = le_antisymm (w.first.1 _ v.first.0) (v.first.1 _ w.first.0) in
      (w.start ∙ ap (λ (k : ℕ). min (tail M k) (head M k)) e ∙ sym v.start, e)
  same {us} {js} v (suc i) l = next (same v i (omega arith))
    where
      next : (get_or vs i 0 ≡ get_or us i 0) × (get_or ks i 0 ≡ get_or js i 0) → (get_or vs (suc i) 0 ≡ get_or us (suc i) 0) × (get_or ks (suc i) 0 ≡ get_or js (suc i) 0)
      next (p, q) =
          let m : i < size s = omega arith in
          let e = after_low (size s) i l in
          let a : get_or vs (suc i) 0 ≡ get_or us (suc i) 0
          = joins_other valid (rw (around_low (size s) ks i m) at (trail.at i (omega arith)).0) (rw e at (w.leads i m)) (rw (← p, ← q, e) at (v.leads i m)) in
          let (h, d) = (rw e at (w.other i m (get_or ks (suc i) 0))).1 refl in
          (a, (rw e at (v.other i m (get_or ks (suc i) 0))).0 (rw a at h, rw q at d))

  -- so it is the same walk
  pub walk_unique : {us js : List ℕ} → Walk M s us js → (vs ≡ us) × (ks ≡ js)
  walk_unique {us} {js} v = (
    ext_get_or 0 vs us (w.as_many-atoms ∙ sym v.as_many-atoms) (λ i l. (same v i (omega (arith, w.as_many-atoms))).0),
    ext_get_or 0 ks js (w.as_many-bonds ∙ sym v.as_many-bonds) (λ i l. (same v i (omega (arith, w.as_many-bonds))).1),
  )
