-- What is known of the rings of a Basis and of their assemblies, and of the sets of Assemblies. Assumes nothing.
use mathlib.Core.Path.{◌≡◌, refl, sym, ap, ◌∙◌}
use mathlib.Core.Bool.{Bool, true, ◌&&◌}
use mathlib.Core.List.{List, ◌∷◌, map}
use Prim.Native.Nat.{ℕ, ◌+◌, ◌≤◌, ◌<◌}
use native.Mathlib.Omega.{arith}
use borrow.Author.Tests.{lt-ltb, le-ltb, ltb-true, ltb-false}
use lib.Dec.{eqb, ltb}
use lib.ListN.{length, get_or, drop}
use Rattle.std.proofs.lemmas.List.{get_or-drop, length-drop, drop-drop}
use lib.Seq.{get_or-take, ext_get_or}
use Rattle.std.proofs.lemmas.List.{get_or_past}
use lib.ListN.{length-map}
use Rattle.sets.specs.Bits.{has, size}
use Rattle.sets.specs.Ring.{bits, no_rings, room}
use Rattle.sets.specs.declared.ring.RingSet.{RingSet}
use Rattle.sets.specs.Lists.{sets_in}
use Rattle.sets.proofs.Machine.{no_rings_lem}
use Rattle.sets.proofs.Laws.{has-zero}
use Rattle.definitions.specs.Search.{picked, gather}
use Rattle.definitions.specs.Table.{Table}
use Rattle.definitions.specs.Basis.{basis_rings}
use Rattle.definitions.specs.Assembly.{assemblies, assembly_count, rings_in}
use Rattle.definitions.proofs.Tests.{by, clashes, and_both}
use Rattle.definitions.proofs.Lists.{has-set_of, size-set_of, listed_ext, gather_ext, get_or-map}
use Rattle.definitions.proofs.Passing.{listed_gap}
use Rattle.definitions.proofs.Linking.{number, length-assemblies, length-rings_in}
use Rattle.std.proofs.Common.{Result, Ok, Err, IfOk, length-take}
use Rattle.answers.specs.Told.{code_of}
use Rattle.answers.specs.declared.refusal.Refusal.{Refusal}
use Rattle.basis.specs.Held.{rings_of, Holds, BasisOf, members_of, held_sets, held_count, AssembliesOf}
use Rattle.basis.specs.declared.found.Assemblies.{Assemblies}
use Rattle.basis.specs.declared.basis.Basis.{Basis}

-- ---- a Basis

module _ {M : Table} {b : Basis} (h : Holds M b) where
  -- ring i is the set at place i
  pub ring-at : (i : ℕ) → i < b.count → get_or (sets_in b.rings) i 0 ≡ get_or (basis_rings M) i 0
  ring-at i l = sym (get_or-take b.count (sets_in b.rings) i 0 l) ∙ ap (λ (rs : List ℕ). get_or rs i 0) h.rings

  -- the assemblies of its rings are those of the table
  pub held_assemblies : {s : Assemblies} → AssembliesOf (rings_of b) s → AssembliesOf (basis_rings M) s
  held_assemblies p = rw h.rings at p

  -- each ring has one
  pub assemblies-counted : b.count ≡ length (assemblies M)
  unfolding assemblies
  assemblies-counted = h.count ∙ sym (length-assemblies (basis_rings M))

-- two hold the same: as many rings, and the same sets at every place
abbrev pub SameRings : Basis → Basis → Type 0
SameRings b c = (b.count ≡ c.count) × ((i : ℕ) → get_or (sets_in b.rings) i 0 ≡ get_or (sets_in c.rings) i 0)

-- two that hold the basis rings of one table do
pub holds_same : {M : Table} {b c : Basis} → Holds M b → Holds M c → SameRings b c
holds_same {b = b} {c} p q =
    let e = p.count ∙ sym q.count in (
      e,
      λ i. by (ltb i b.count) (λ t. let l = ltb-true i b.count t in ring-at p i l ∙ sym (ring-at q i (omega arith)))
          (λ t. let l = ltb-false i b.count t in p.blank i l ∙ sym (q.blank i (omega arith))),
    )

-- two of one table tell the same refusal or hold the same
pub basis-same : {M : Table} {p : Result Basis Refusal} {q : Result Basis Refusal} → BasisOf M p → BasisOf M q
    → (code_of p ≡ code_of q) × IfOk p (λ b. IfOk q (SameRings b))
basis-same {M = M} {p = Ok b} {q = Ok c} h k = (h.number ∙ sym k.number, holds_same h.rings k.rings)
basis-same {M = M} {p = Ok b} {q = Err e} h k = (h.number ∙ sym k.number, tt)
basis-same {M = M} {p = Err d} {q = q} h k = (h.number ∙ sym k.number, tt)

-- ---- Assemblies

-- the set of assembly a is the one at place a
pub members-at : (sets : List RingSet) (a : ℕ) → get_or (map bits sets) a 0 ≡ bits (get_or sets a no_rings)
members-at sets a = get_or-map bits sets a no_rings 0 no_rings_lem

-- there are as many as the count says
pub count-held : (s : Assemblies) → s.count ≡ held_count s
count-held s = omega (arith, length-take s.count s.members, s.within)

-- there is a set for each
pub members-length : (s : Assemblies) → length (members_of s) ≡ held_count s
members-length s = length-map (held_sets s) bits

-- and none after them
members-past : (s : Assemblies) (a : ℕ) → held_count s ≤ a → get_or (members_of s) a 0 ≡ 0
members-past s a l = get_or_past (members_of s) a 0 (omega (arith, members-length s))

-- a loop over the sets has passed n of them, and the rest are left
pub record Left (all : List RingSet) (n : ℕ) (rest : List RingSet) : Type 0 where
  pub are : rest ≡ drop n all

-- before the first all are
pub left_all : (all : List RingSet) → Left all 0 all
left_all all = record { are = refl }

module _ {all rest next : List RingSet} {n : ℕ} {x : RingSet} (left : Left all n rest) (step : rest ≡ x ∷ next) where
  at : drop n all ≡ x ∷ next
  at = sym left.are ∙ step

  -- so it is at assembly n
  pub left_inside : n < length all
  left_inside = omega (arith, length-drop n all, ap length at)

  -- which has this set
  pub left_at : get_or (map bits all) n 0 ≡ bits x
  left_at =
      let here : n ≡ n + 0 = omega arith in
      members-at all n ∙ ap bits (ap (λ k. get_or all k no_rings) here ∙ sym (get_or-drop n all 0 no_rings) ∙ ap (λ sets. get_or sets 0 no_rings) at)

  -- and the others are left
  pub left_next : Left all (n + 1) next
  left_next = record { are = sym (ap (drop 1) at) ∙ drop-drop 1 n all }

-- at the end all are passed
pub left_none : {all rest : List RingSet} {n : ℕ} → Left all n rest → length rest ≡ 0 → length all ≤ n
left_none {all} {rest} {n} left none = omega (arith, length-drop n all, ap length left.are)

module _ {rs : List ℕ} {s : Assemblies} (h : AssembliesOf rs s) where
  -- the set of assembly a has the rings whose assembly is a
  pub members-has : (a i : ℕ) → a < held_count s → has (get_or (members_of s) a 0) i ≡ ltb i (length rs) && eqb (number rs i) a
  members-has a i l = ap (λ (t : ℕ). has t i) (h.members a l) ∙ has-set_of (length rs) (λ j. eqb (number rs j) a) i

  -- so each of its rings is one of the list
  pub members_below : (a i : ℕ) → has (get_or (members_of s) a 0) i ≡ true → i < length rs
  members_below a i e =
      by (ltb a (held_count s))
      (λ t. ltb-true i (length rs) (and_both (ltb i (length rs)) (eqb (number rs i) a) (sym (members-has a i (ltb-true a (held_count s) t)) ∙ e)).0)
      (λ t. clashes e (ap (λ (m : ℕ). has m i) (members-past s a (ltb-false a (held_count s) t)) ∙ has-zero i))

  -- it has as many rings as the assembly
  pub members-size : (a : ℕ) → a < held_count s → size (get_or (members_of s) a 0) ≡ length (rings_in rs a)
  members-size a l = ap size (h.members a l) ∙ size-set_of (length rs) (λ i. eqb (number rs i) a) ∙ sym (length-rings_in rs a)

-- two hold the same sets in order, so as many
abbrev pub SameAssemblies : Assemblies → Assemblies → Type 0
SameAssemblies s t = members_of s ≡ members_of t

-- two of one list of basis rings do
pub assemblies-same : {rs : List ℕ} {s t : Assemblies} → AssembliesOf rs s → AssembliesOf rs t → SameAssemblies s t
assemblies-same {s = s} {t} h k =
    ext_get_or 0 (members_of s) (members_of t) (members-length s ∙ h.count ∙ sym (members-length t ∙ k.count))
    (λ a l. let at : a < held_count s = omega (arith, members-length s) in h.members a at ∙ sym (k.members a (omega (arith, h.count, k.count))))

-- ---- both

module _ {M : Table} {b : Basis} {s : Assemblies} (h : Holds M b) (p : AssembliesOf (basis_rings M) s) where
  -- the basis rings of an assembly stand at the places that its set names
  pub picked-rings : (a : ℕ) → a < held_count s → picked (sets_in b.rings) (get_or (members_of s) a 0) ≡ rings_in (basis_rings M) a
  unfolding rings_in
  picked-rings a l =
      listed_gap (has set) ring n room (omega (arith, h.count, h.counted)) (λ k m j. members-has p a k l ∙ ap (λ (t : Bool). t && q k) (le-ltb k n m))
      ∙ listed_ext n (has set) q ring (λ i. get_or (basis_rings M) i 0) (λ k m. members-has p a k l ∙ ap (λ (t : Bool). t && q k) (lt-ltb k n m))
      (λ k m t. ring-at h k (omega (arith, h.count)))
    where
      n : ℕ
      n = length (basis_rings M)

      set : ℕ
      set = get_or (members_of s) a 0

      q : ℕ → Bool
      q i = eqb (number (basis_rings M) i) a

      ring : ℕ → ℕ
      ring i = get_or (sets_in b.rings) i 0

  -- so what is made of them, one assembly after another, is made of the assemblies of the table
  pub picked_all : {A : Type 0} (f : List ℕ → List A)
      → gather (held_count s) (λ a. f (picked (sets_in b.rings) (get_or (members_of s) a 0))) ≡ gather (assembly_count (basis_rings M)) (λ a. f (rings_in (basis_rings M) a))
  picked_all f =
      gather_ext (held_count s) _ (λ a. f (rings_in (basis_rings M) a)) (λ a l. ap f (picked-rings a l))
      ∙ ap (λ (n : ℕ). gather n (λ a. f (rings_in (basis_rings M) a))) p.count
