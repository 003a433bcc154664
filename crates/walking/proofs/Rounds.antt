-- Trails in a bond set, and rounds: trails whose atoms differ until the last bond leads back to the first atom. The bonds of a round are an
-- even set. Where they are all of the set, each atom of the round has two bonds of it, and the set is a ring. Assumes nothing.
use mathlib.Core.Path.{◌≡◌, refl, sym, ap, ◌∙◌}
use mathlib.Core.Logic.{◌≢◌, ◌⊎◌, inl, inr, ⊎_elim}
use mathlib.Core.Bool.{true, xor}
use Prim.Native.Nat.{ℕ, zero, suc, ◌≤◌, ◌<◌}
use native.Mathlib.Nat.{pos_of_ne-zero}
use native.Mathlib.Omega.{arith}
use lib.Dec.{eqb}
use borrow.Author.Tests.{eqb-true, eqb-false}
use Rattle.sets.specs.Bits.{has, size, Sub}
use Rattle.sets.proofs.Laws.{lowest}
use Rattle.sets.proofs.Size.{size-sub, sub_same}
use Rattle.sets.proofs.Members.{sub_antisym}
use Rattle.definitions.specs.Table.{Table}
use Rattle.definitions.specs.Ring.{degree, Even, Ring}
use Rattle.definitions.specs.Basis.{Joins, Path, Path.stay}
use Rattle.definitions.specs.Walk.{after, At}
use Rattle.definitions.proofs.Tests.{by, same_test}
use Rattle.definitions.proofs.Refusals.{Valid}
use Rattle.definitions.proofs.Paths.{joins_turn, joins_either, path-bonds, path-on}
use Rattle.cycles.proofs.Xor.{xor_self}
use Rattle.cycles.proofs.Evens.{even_of, member-some}
use Rattle.cycles.proofs.BasisRings.{path-within, path_odd}
use Rattle.walking.proofs.Apart.{Differ, apart-eq, walked, walked_has, walked_found, walked_fresh, walked_size}
use Rattle.walking.proofs.Bonds.{joins_meets, meets_joins, joins_apart, joins_inside, bonds-two, even_both}

-- ---- trails and rounds

-- n bonds of the set one after another, each other than the one before: bond B i joins atoms A i and A (i + 1), and B n is at A n
pub record Trail (M : Table) (s : ℕ) (A B : ℕ → ℕ) (n : ℕ) : Type 0 where
  pub at : (i : ℕ) → i ≤ n → At M s (A i) (B i)
  pub joins : (i : ℕ) → i < n → Joins M (B i) (A i) (A (suc i))
  pub turns : (i : ℕ) → i < n → B (suc i) ≢ B i

-- a trail whose atoms differ until it is back at the first
pub record Round (M : Table) (s : ℕ) (A B : ℕ → ℕ) (n : ℕ) : Type 0 where
  pub trail : Trail M s A B n
  pub some : 0 < n
  pub apart : Differ A n
  pub closed : A n ≡ A 0

-- the atom that bond i reaches is one of its own
pub trail_reached : {M : Table} {s : ℕ} {A B : ℕ → ℕ} {n : ℕ} → Trail M s A B n → (i : ℕ) → i < n → At M s (A (suc i)) (B i)
trail_reached t i l = let (b, h, _) = t.at i (omega arith) in (b, h, joins_meets (joins_turn (t.joins i l)))

-- the bonds of a trail that differ are a path
trail_path : {M : Table} {s : ℕ} {A B : ℕ → ℕ} {n : ℕ} → Trail M s A B n → Differ B n → (m : ℕ) → m ≤ n → Path M (has s) (A 0) (A m) (walked B m)
unfolding walked
trail_path t d zero l = stay
trail_path {B = B} {n = n} t d (suc m) l =
    let (b, h, _) = t.at m (omega arith) in
    path-on (trail_path t d m (omega arith)) b h (walked_fresh B n m d (omega arith)) (t.joins m (omega arith))

-- where the atoms of a trail differ, so do its bonds
open_apart : {M : Table} {s : ℕ} {A B : ℕ → ℕ} {n : ℕ} → Trail M s A B n → Differ A (suc n) → Differ B n
open_apart t a i j l m e = ⊎_elim (a i j l (omega arith)) (a i (suc j) (omega arith) (omega arith)) (joins_either (t.joins i (omega arith)) (rw e (t.joins j m)))

-- and there are no more of them than the set has
pub open_short : {M : Table} {s : ℕ} {A B : ℕ → ℕ} {n : ℕ} → Trail M s A B n → Differ A (suc n) → n ≤ size s
open_short {s = s} {B = B} {n = n} t a =
    let d = open_apart t a in
    omega (arith, size-sub (walked B n) s (λ k h. (path-bonds (trail_path t d n (omega arith)) k h).1), walked_size B n n d (omega arith))

module _ {M : Table} (valid : Valid M) {s : ℕ} {A B : ℕ → ℕ} {n : ℕ} (r : Round M s A B n) where
  -- the last bond of a round is not the first
  pub round_turn : (m : ℕ) → suc m ≡ n → B m ≢ B 0
  round_turn m e q =
      let self : A 1 ≢ A 0 = λ z. joins_apart valid (r.trail.at 0 (omega arith)).0 (r.trail.joins 0 r.some) (sym z) in
      ⊎_elim
      (λ z. by (eqb m 0) (λ t. self (z ∙ ap A (eqb-true m 0 t)))
      (λ t. by (eqb m 1) (λ u. r.trail.turns 0 r.some (ap B (sym (eqb-true m 1 u)) ∙ q))
      (λ u. r.apart 1 m (omega (arith, eqb-false m 0 t, eqb-false m 1 u)) (omega arith) z)))
      (λ z. self (z ∙ ap A e ∙ r.closed))
      (joins_either (joins_turn (r.trail.joins 0 r.some)) (rw (sym q) (r.trail.joins m (omega arith))))

  -- its bonds differ
  pub round_bonds : Differ B n
  round_bonds i j l m e =
      ⊎_elim (r.apart i j l m)
      (λ z. by (eqb (suc j) n)
      (λ t. let q = eqb-true (suc j) n t in
      by (eqb i 0) (λ u. round_turn j q (sym e ∙ ap B (eqb-true i 0 u)))
      (λ u. r.apart 0 i (omega (arith, eqb-false i 0 u)) (omega arith) (sym (z ∙ ap A q ∙ r.closed))))
      (λ t. r.apart i (suc j) (omega arith) (omega (arith, eqb-false (suc j) n t)) z))
      (joins_either (r.trail.joins i (omega arith)) (rw e (r.trail.joins j m)))

  -- they are a path from the first atom to itself
  round_path : Path M (has s) (A 0) (A n) (walked B n)
  round_path = trail_path r.trail round_bonds n (omega arith)

  -- the set of them is even
  round_even : Even M (walked B n)
  round_even =
      even_of M (walked B n) (path-within round_path)
      (λ v l. path_odd valid round_path v ∙ ap (λ (x : ℕ). xor (eqb (A 0) v) (eqb x v)) r.closed ∙ xor_self (eqb (A 0) v))

  -- not empty
  round_some : walked B n ≢ 0
  round_some = member-some (B 0) (walked_has B n 0 r.some)

  -- and a part of s
  round_sub : Sub (walked B n) s
  round_sub k h = (path-bonds round_path k h).1

  -- of n bonds
  pub round_size : size (walked B n) ≡ n
  round_size = walked_size B n n round_bonds (omega arith)

  -- in a ring it is all of s
  pub round_all : Ring M s → walked B n ≡ s
  round_all ring = ring.least (walked B n) round_even round_some round_sub

-- ---- a round of as many bonds as the set has

-- the place after one of n places is one of them
pub after-lt : (n i : ℕ) → i < n → after n i < n
after-lt n i l = by (eqb (suc i) n) (λ e. rw e (omega arith)) (λ e. rw e (omega (arith, eqb-false (suc i) n e)))

-- in a sequence that is at n as it is at first the next member stands at the place after
pub after-at : (A : ℕ → ℕ) (n : ℕ) → A n ≡ A 0 → (i : ℕ) → A (suc i) ≡ A (after n i)
after-at A n z i = by (eqb (suc i) n) (λ e. rw e (ap A (eqb-true (suc i) n e) ∙ z)) (λ e. rw e refl)

module _ {M : Table} (valid : Valid M) {s : ℕ} {A B : ℕ → ℕ} (r : Round M s A B (size s)) where
  -- its bonds are those of the set
  whole : walked B (size s) ≡ s
  whole = sub_same (walked B (size s)) s (round_sub valid r) (round_size valid r)

  -- each of them is gone over
  pub whole-found : (k : ℕ) → has s k ≡ true → (i : ℕ) × (i < size s) × (B i ≡ k)
  whole-found k h = walked_found B (size s) k (ap (λ (x : ℕ). has x k) whole ∙ h)

  -- the atoms that are reached differ too
  next_apart : Differ (λ i. A (suc i)) (size s)
  next_apart i j l m e =
      by (eqb (suc j) (size s))
      (λ t. r.apart 0 (suc i) (omega arith) (omega arith) (sym (e ∙ ap A (eqb-true (suc j) (size s) t) ∙ r.closed)))
      (λ t. r.apart (suc i) (suc j) (omega arith) (omega (arith, eqb-false (suc j) (size s) t)) e)

  -- the bonds of the set at the atom that bond i reaches are bond i and that at the place after it
  near : (i : ℕ) → i < size s → (k : ℕ) → At M s (A (suc i)) k → (k ≡ B i) ⊎ (k ≡ B (after (size s) i))
  near i l k (_, h, m) =
      let (j, b, e) = whole-found k h in
      ⊎_elim
      (λ z. inr (sym e ∙ ap B (apart-eq r.apart j (after (size s) i) b (after-lt (size s) i l) (sym z ∙ after-at A (size s) r.closed i))))
      (λ z. inl (sym e ∙ ap B (apart-eq next_apart j i b l (sym z))))
      (joins_either (meets_joins M k (A (suc i)) m) (rw e at (r.trail.joins j b)))

  -- the next bond of the trail is that one
  pub whole-after : (i : ℕ) → i < size s → B (suc i) ≡ B (after (size s) i)
  whole-after i l = ⊎_elim (λ e. absurd (r.trail.turns i l e)) (λ e. e) (near i l (B (suc i)) (r.trail.at (suc i) (omega arith)))

  -- so at that atom are bond i and the next
  pub whole_near : (i : ℕ) → i < size s → (k : ℕ) → At M s (A (suc i)) k → (k ≡ B i) ⊎ (k ≡ B (suc i))
  whole_near i l k m = ⊎_elim inl (λ e. inr (e ∙ sym (whole-after i l))) (near i l k m)

  -- the set has two bonds there
  pub whole-degree : (i : ℕ) → i < size s → degree M s (A (suc i)) ≡ 2
  whole-degree i l =
      bonds-two M s (A (suc i)) (trail_reached r.trail i l) (r.trail.at (suc i) (omega arith)) (λ e. r.trail.turns i l (sym e)) (whole_near i l)

  -- and an even part of the set has all bonds or none
  whole-even : {t : ℕ} → Even M t → Sub t s → (i : ℕ) → i < size s → has t (B i) ≡ has t (B 0)
  whole-even e inside zero l = refl
  whole-even {t} e inside (suc i) l =
      let m : i < size s = omega arith in
      let a : A (suc i) < M.atoms = joins_inside valid (r.trail.at i (omega arith)).0 (r.trail.joins i m) in
      same_test (has t (B (suc i))) (has t (B i))
      (even_both M s (A (suc i)) e inside a (r.trail.at (suc i) (omega arith)) (λ k p. ⊎_elim inr inl (whole_near i m k p)))
      (even_both M s (A (suc i)) e inside a (trail_reached r.trail i m) (whole_near i m))
      ∙ whole-even e inside i m

  -- so the set is a ring
  pub whole-ring : Ring M s
  whole-ring = record { even = rw whole at (round_even valid r); some = rw whole at (round_some valid r); least = least }
    where
      least : (t : ℕ) → Even M t → t ≢ 0 → Sub t s → t ≡ s
      least t e some inside =
          let (k, h, _) = lowest t (pos_of_ne-zero some) in
          let (i, l, q) = whole-found k (inside k h) in
          let first : has t (B 0) ≡ true = sym (whole-even e inside i l) ∙ ap (has t) q ∙ h in
          sub_antisym t s inside (λ j m. let (x, b, f) = whole-found j m in ap (has t) (sym f) ∙ whole-even e inside x b ∙ first)
