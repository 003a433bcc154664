-- Paths of bonds. A bond that is already in a path is put before it by cutting the loop, so paths are put together and turned round;
-- so the atoms of a closure bond are those in one fragment, and each closure bond is gone round by forest bonds below it. Assumes nothing.
use mathlib.Core.Path.{◌≡◌, refl, sym, ap, ◌∙◌, subst}
use mathlib.Core.Bool.{Bool, true, false, ◌&&◌, ◌||◌, not, or-true, or_comm}
use mathlib.Core.List.Memᴰ.{head as first}
use mathlib.Core.List.Memᴰ.{not-nil}
use mathlib.Core.List.Memᴰ.{tail as later}
use mathlib.Core.List.{Memᴰ as In}
use mathlib.Core.Logic.Iff
use mathlib.Core.Logic.{◌↔◌, ◌⊎◌, inl, inr, ⊎_elim}
use Prim.Native.Nat.{ℕ, zero, suc, ◌+◌, ◌≤◌, ◌<◌}
use native.Mathlib.Numerals.{add-one}
use native.Mathlib.Omega.{arith}
use borrow.Author.Tests.{eqb-true, eqb-false, eq-eqb, ltb-true, lt-ltb}
use lib.Dec.{eqb, ltb}
use lib.ListN.{length, get_or}
use Rattle.sets.specs.Bits.{has, with}
use Rattle.sets.proofs.Laws.{ext, has-with, has-zero}
use Rattle.definitions.specs.Table.{Table, bonds, tail, head, refusal, max_bonds}
use Rattle.definitions.specs.Basis.{Joins, Path, Closure, ends_below, fragments, closure?, forest, basis_ring, basis_rings}
use Rattle.definitions.specs.Basis.Joins.{along, back}
use Rattle.definitions.specs.Basis.Path.{stay, go}
use Rattle.definitions.proofs.Tests.{by, or-one, clashes, not_passed, both_and, and_both, eqb_self}
use Rattle.definitions.proofs.Lists.{has-set_of, count-le, length-listed}
use Rattle.definitions.proofs.Refusals.{Valid, accepted}
use Rattle.definitions.proofs.Classes.{Joined, here, forth, back as backward, Within, joined_trans, merged, label_pair, classes-bond, classes_joined}

-- ---- the two atoms of a bond

-- a bond joins its atoms from either
pub joins_turn : {M : Table} {j a b : ℕ} → Joins M j a b → Joins M j b a
joins_turn along = back
joins_turn back = along

-- a bond joins its tail and its head, either way round
pub joins_ends : {M : Table} {j a b : ℕ} → Joins M j a b → ((a ≡ tail M j) × (b ≡ head M j)) ⊎ ((a ≡ head M j) × (b ≡ tail M j))
joins_ends along = inl (refl, refl)
joins_ends back = inr (refl, refl)

-- an atom of a bond is one of the two that it joins
pub joins_either : {M : Table} {j a b c d : ℕ} → Joins M j a b → Joins M j c d → (a ≡ c) ⊎ (a ≡ d)
joins_either p q = meets (joins_ends p) (joins_ends q)
  where
    meets : {a b c d t h : ℕ} → ((a ≡ t) × (b ≡ h)) ⊎ ((a ≡ h) × (b ≡ t)) → ((c ≡ t) × (d ≡ h)) ⊎ ((c ≡ h) × (d ≡ t)) → (a ≡ c) ⊎ (a ≡ d)
    meets (inl x) (inl y) = inl (x.0 ∙ sym y.0)
    meets (inl x) (inr y) = inr (x.0 ∙ sym y.1)
    meets (inr x) (inl y) = inr (x.0 ∙ sym y.1)
    meets (inr x) (inr y) = inl (x.0 ∙ sym y.0)

-- ---- one member more

-- a set with k has k, and what it had
pub with_new : (s k : ℕ) → has (with s k) k ≡ true
with_new s k = has-with s k k ∙ rw (eqb_self k) (or-true (has s k))

pub with_old : (s k j : ℕ) → has s j ≡ true → has (with s k) j ≡ true
with_old s k j h = has-with s k j ∙ rw h

-- and nothing else
pub with-other : (s k j : ℕ) → has (with s k) j ≡ true → (has s j ≡ true) ⊎ (k ≡ j)
with-other s k j h = ⊎_elim inl (λ e. inr (eqb-true k j e)) (or-one (has s j) (eqb k j) (sym (has-with s k j) ∙ h))

-- two members in either order
pub with_comm : (s j k : ℕ) → with (with s j) k ≡ with (with s k) j
with_comm s j k = ext _ _ (λ i. simp has-with (swapped (has s i) (eqb j i) (eqb k i)))
  where
    swapped : (x y z : Bool) → x || y || z ≡ x || z || y
    swapped true y z = refl
    swapped false y z = or_comm y z

-- ---- the bonds of a path

-- each is a bond of the table that passes
pub path-bonds : {M : Table} {p : ℕ → Bool} {a b s : ℕ} → Path M p a b s → (j : ℕ) → has s j ≡ true → (j < bonds M) × (p j ≡ true)
path-bonds stay j h = clashes h (has-zero j)
path-bonds {M} {p} (go {j = i} {s = s} l e n w r) j h =
    ⊎_elim (λ x. path-bonds r j x) (λ q. (subst (λ (k : ℕ). k < bonds M) q l, ap p (sym q) ∙ e)) (with-other s i j h)

-- the same path, where its bonds pass another test
pub path_as : {M : Table} {p q : ℕ → Bool} {a b s : ℕ} → Path M p a b s → ((j : ℕ) → has s j ≡ true → q j ≡ true) → Path M q a b s
path_as stay f = stay
path_as (go {j = i} {s = s} l e n w r) f = go l (f i (with_new s i)) n w (path_as r (λ j h. f j (with_old s i j h)))

-- ---- a path at its end

-- a bond that is not in a path goes on from its end
pub path-on : {M : Table} {p : ℕ → Bool} {j a b c s : ℕ} → Path M p a b s → j < bonds M → p j ≡ true → has s j ≡ false → Joins M j b c → Path M p a c (with s j)
path-on stay l e n w = go l e n w stay
path-on {M} {p} {j} {a} {b} {c} (go {j = i} {s = s} l' e' n' w' r) l e n w =
    let other : i ≡ j → ⊥ = λ q. clashes (with_new s i) (ap (has (with s i)) q ∙ n) in
    let fresh : has s j ≡ false = not_passed _ (λ t. clashes (with_old s i j t) n) in
    let still : has (with s j) i ≡ false
    = not_passed _ (λ t. ⊎_elim (λ x. clashes x n') (λ q. other (sym q)) (with-other s j i t)) in
    subst (Path M p a c) (with_comm s j i) (go l' e' still w' (path-on r l e fresh w))

-- a path turned round has the same bonds
pub path_turn : {M : Table} {p : ℕ → Bool} {a b s : ℕ} → Path M p a b s → Path M p b a s
path_turn stay = stay
path_turn (go l e n w r) = path-on (path_turn r) l e n (joins_turn w)

-- ---- there is a path

-- a path of bonds that pass p, with the set of its bonds
abbrev pub Way : Table → (ℕ → Bool) → ℕ → ℕ → Type 0
Way M p a b = (s : ℕ) × Path M p a b s

-- where p passes, q does: a path for p gives one for q
pub way_more : {M : Table} {p q : ℕ → Bool} {a b : ℕ} → ((j : ℕ) → j < bonds M → p j ≡ true → q j ≡ true) → Way M p a b → Way M q a b
way_more f w = (w.0, path_as w.1 (λ j h. let r = path-bonds w.1 j h in f j r.0 r.1))

-- a path the other way
pub way_turn : {M : Table} {p : ℕ → Bool} {a b : ℕ} → Way M p a b → Way M p b a
way_turn w = (w.0, path_turn w.1)

-- from an atom of a bond that is in a path there is a path to the end: the part from the bond on, with the bond or without it
cut : {M : Table} {p : ℕ → Bool} {j a b c d s : ℕ} → Joins M j a b → Path M p c d s → has s j ≡ true → Way M p a d
cut {j = j} w stay h = clashes h (has-zero j)
cut {M} {p} {j} {a} {b} {c} {d} w (go {j = i} {b = b'} {s = s} l e n w' r) h =
    ⊎_elim (λ x. cut w r x)
    (λ q. ⊎_elim
    (λ z. (with s i, subst (λ (v : ℕ). Path M p v d (with s i)) (sym z) (go l e n w' r)))
    (λ z. (s, subst (λ (v : ℕ). Path M p v d s) (sym z) r))
    (joins_either w (subst (λ (k : ℕ). Joins M k c b') q w')))
    (with-other s i j h)

-- a bond before a path
pub way_step : {M : Table} {p : ℕ → Bool} {j a b c : ℕ} → j < bonds M → p j ≡ true → Joins M j a b → Way M p b c → Way M p a c
way_step {j = j} l e w (s, r) = by (has s j) (λ h. cut w r h) (λ h. (with s j, go l e h w r))

-- a path before a path
path-way : {M : Table} {p : ℕ → Bool} {a b c s : ℕ} → Path M p a b s → Way M p b c → Way M p a c
path-way stay q = q
path-way (go l e n w r) q = way_step l e w (path-way r q)

pub way_trans : {M : Table} {p : ℕ → Bool} {a b c : ℕ} → Way M p a b → Way M p b c → Way M p a c
way_trans w q = path-way w.1 q

-- a path between the atoms of a bond, from either
pub joins_way : {M : Table} {p : ℕ → Bool} {j a b : ℕ} → Joins M j a b → Way M p (tail M j) (head M j) → Way M p a b
joins_way along w = w
joins_way back w = way_turn w

-- a path, each bond of which is replaced by a path between its atoms
pub way_replace : {M : Table} {p q : ℕ → Bool} {a b s : ℕ} → ((j : ℕ) → j < bonds M → p j ≡ true → Way M q (tail M j) (head M j)) → Path M p a b s → Way M q a b
way_replace f stay = (0, stay)
way_replace f (go {j = j} l e n w r) = way_trans (joins_way w (f j l e)) (way_replace f r)

-- ---- atoms joined by the bonds below k

-- the pairs are the ends of the bonds below k
pub ends_in : (M : Table) (k : ℕ) {x y : ℕ} → In (x, y) (ends_below M k) → (j : ℕ) × (j < k) × (x ≡ tail M j) × (y ≡ head M j)
unfolding ends_below
ends_in M zero i = absurd (not-nil i)
ends_in M (suc k) (first q) = (k, omega arith, ap (λ (e : ℕ × ℕ). e.0) q, ap (λ (e : ℕ × ℕ). e.1) q)
ends_in M (suc k) (later i) = let r = ends_in M k i in (r.0, omega arith, r.2, r.3)

-- and each of those bonds is there
pub ends_of : (M : Table) (k j : ℕ) → j < k → In (tail M j, head M j) (ends_below M k)
unfolding ends_below
ends_of M zero j l = absurd (omega arith)
ends_of M (suc k) j l =
    by (eqb j k) (λ e. first (ap (λ (i : ℕ). (tail M i, head M i)) (eqb-true j k e)))
    (λ e. later (ends_of M k j (omega (arith, eqb-false j k e))))

-- the bonds below k
abbrev pub below : ℕ → ℕ → Bool
below k j = ltb j k

-- a bond below k joins its atoms
joins_joined : {M : Table} {k j a b : ℕ} → j < k → Joins M j a b → Joined (ends_below M k) a b
joins_joined {M} {k} {j} l along = forth (ends_of M k j l) here
joins_joined {M} {k} {j} l back = backward (ends_of M k j l) here

-- a bond joins its tail to its head
pub joins_of : {M : Table} {j a b : ℕ} → a ≡ tail M j → b ≡ head M j → Joins M j a b
joins_of {M} {j} p q = rw (p, q) along

-- a path of bonds below k joins its ends
pub path_joined : {M : Table} (k : ℕ) {a b s : ℕ} → Path M (below k) a b s → Joined (ends_below M k) a b
path_joined k stay = here
path_joined k (go {j = j} l e n w r) = joined_trans (joins_joined (ltb-true j k e) w) (path_joined k r)

-- where atoms are joined there is a path, by a step over the bond of each pair
pub joined_way : {M : Table} (k : ℕ) {a b : ℕ} → k ≤ bonds M → Joined (ends_below M k) a b → Way M (below k) a b
joined_way k h here = (0, stay)
joined_way {M} k h (forth i r) =
    let (j, l, p, q) = ends_in M k i in
    way_step (omega arith) (lt-ltb j k l) (joins_of p q) (joined_way k h r)
joined_way {M} k h (backward i r) =
    let (j, l, p, q) = ends_in M k i in
    way_step (omega arith) (lt-ltb j k l) (joins_turn (joins_of p q)) (joined_way k h r)

-- atoms are joined by the bonds below k where these make a path between them
pub joined_iff_way : (M : Table) (k : ℕ) → k ≤ bonds M → (a b : ℕ) → Joined (ends_below M k) a b ↔ Way M (below k) a b
joined_iff_way M k h a b = (joined_way k h, λ w. path_joined k w.1)

-- ---- fragments and closure bonds

-- bond k makes the fragments of its atoms one
pub fragments_more : (M : Table) (k a : ℕ) → get_or (fragments M (k + 1)) a 0 ≡ merged (get_or (fragments M k) (tail M k) 0) (get_or (fragments M k) (head M k) 0) (get_or (fragments M k) a 0)
unfolding fragments ends_below
fragments_more M k a = rw (add-one k) (label_pair M.atoms (tail M k, head M k) (ends_below M k) a)

-- the atoms of a bond below k are in one fragment
pub fragment_ends : (M : Table) (k j : ℕ) → j < k → get_or (fragments M k) (tail M j) 0 ≡ get_or (fragments M k) (head M j) 0
unfolding fragments
fragment_ends M k j l = classes-bond M.atoms (ends_below M k) (ends_of M k j l)

module _ {M : Table} (v : Valid M) where
  -- the pairs are of atoms of the table
  pub ends-within : (k : ℕ) → k ≤ bonds M → Within M.atoms (ends_below M k)
  ends-within k h e i =
      let (j, l, p, q) = ends_in M k i in
      let inside = v.inside j (omega arith) in
      (omega arith, omega arith)

  -- atoms are in one fragment where bonds below k make a path between them
  pub fragments-way : (k : ℕ) → k ≤ bonds M → (a b : ℕ) → a < M.atoms → b < M.atoms
      → (get_or (fragments M k) a 0 ≡ get_or (fragments M k) b 0) ↔ Way M (below k) a b
  unfolding fragments
  fragments-way k h a b x y =
      Iff.trans (classes_joined M.atoms (ends_below M k) (ends-within k h) a b x y) (joined_iff_way M k h a b)

  -- a bond passes the test where it is a closure bond
  pub closure_test : (k : ℕ) → k < bonds M → (closure? M k ≡ true) ↔ Closure M k
  unfolding closure?
  closure_test k h =
      let inside = v.inside k h in
      let w = fragments-way k (omega arith) (tail M k) (head M k) inside.0 inside.1 in
      (λ e. record { bond = h; path = w.0 (eqb-true _ _ e) }, λ c. eq-eqb _ _ (w.1 c.path))

-- there are no more basis rings than bonds
pub basis-at-most : (M : Table) → length (basis_rings M) ≤ bonds M
unfolding basis_rings
basis-at-most M = omega (arith, length-listed (bonds M) (closure? M) (basis_ring M), count-le (closure? M) (bonds M))

-- an accepted table has few of them
pub few-basis_rings : (M : Table) → refusal M ≡ 0 → length (basis_rings M) ≤ max_bonds
few-basis_rings M e = omega (arith, basis-at-most M, ((accepted M).0 e).few-bonds)

-- ---- the forest

-- the forest has the bonds that fail the test
pub has-forest : (M : Table) (k : ℕ) → has (forest M) k ≡ ltb k (bonds M) && not (closure? M k)
unfolding forest
has-forest M k = has-set_of (bonds M) (λ j. not (closure? M j)) k

-- the forest bonds below k
abbrev pub forest_below : Table → ℕ → ℕ → Bool
forest_below M k j = has (forest M) j && ltb j k

-- what is below m is below k
forest_lower : (M : Table) {m k : ℕ} (j : ℕ) → m ≤ k → forest_below M m j ≡ true → forest_below M k j ≡ true
forest_lower M {m} {k} j h e =
    let (f, l) = and_both (has (forest M) j) (ltb j m) e in
    both_and f (lt-ltb j k (omega (arith, ltb-true j m l)))

-- where each bond below k has a path of forest bonds that are not above it, a path of bonds below k gives one of forest bonds below k
forest_replace : {M : Table} (k : ℕ) {a b : ℕ} → ((j : ℕ) → j < k → j < bonds M → Way M (forest_below M (suc j)) (tail M j) (head M j))
    → Way M (below k) a b → Way M (forest_below M k) a b
forest_replace {M} k f w =
    way_replace (λ j l e. let h = ltb-true j k e in way_more (λ i x. forest_lower M i h) (f j h l)) w.1

module _ {M : Table} (v : Valid M) where
  -- each bond has such a path: itself, or the forest path that goes round it
  bond-way : (k j : ℕ) → j < k → j < bonds M → Way M (forest_below M (suc j)) (tail M j) (head M j)
  bond-way zero j l h = absurd (omega arith)
  bond-way (suc k) j l h =
      by (closure? M j)
      (λ e. way_more (λ i x. forest_lower M i (omega arith)) (forest_replace j (λ i l' x. bond-way k i (omega arith) x) ((closure_test v j h).0 e).path))
      (λ e. way_step h (both_and (has-forest M j ∙ both_and (lt-ltb j (bonds M) h) (rw e)) (lt-ltb j (suc j) (omega arith))) along (0, stay))

  -- atoms with a path of bonds below k have one of forest bonds below k
  pub forest-way : (k : ℕ) {a b : ℕ} → Way M (below k) a b → Way M (forest_below M k) a b
  forest-way k w = forest_replace k (bond-way k) w

  -- a closure bond is gone round by forest bonds below it
  pub forest-path : {k : ℕ} → Closure M k → (s : ℕ) × Path M (has (forest M)) (tail M k) (head M k) s × ((j : ℕ) → has s j ≡ true → j < k)
  forest-path {k} c =
      let (s, r) = forest-way k c.path in
      let each : (j : ℕ) → has s j ≡ true → (has (forest M) j ≡ true) × (ltb j k ≡ true)
      = λ j h. and_both (has (forest M) j) (ltb j k) (path-bonds r j h).1 in
      (s, path_as r (λ j h. (each j h).0), λ j h. ltb-true j k (each j h).1)
