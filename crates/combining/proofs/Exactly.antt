-- What the combination finds in all assemblies is exactly the rings, each once. The sets of a group are the sums of a basis ring and
-- some before it; such a sum is a ring where no ring of a group before is inside it, and every ring is in one group of one assembly.
-- Assumes nothing.
use mathlib.Core.Path.{◌≡◌, refl, sym, ap, ap₂, subst⁻¹, ◌∙◌}
use mathlib.Core.Logic.{◌↔◌, ◌⊎◌, inl, inr, ⊎_elim}
use mathlib.Core.List.Memᴰ
use mathlib.Core.List.{List, [], ◌∷◌, ◌++◌, Sublistᴰ}
use mathlib.Core.List.Memᴰ.{append_cases as in-append}
use mathlib.Core.List.Memᴰ.{eq_of_singleton}
use mathlib.Core.List.Memᴰ.{head as here}
use mathlib.Core.List.Memᴰ.{not-nil as not-in-nil}
use mathlib.Core.List.Memᴰ.{tail as there}
use mathlib.Core.List.{Memᴰ as In}
use Prim.Native.Nat.{ℕ, zero, suc, ◌<◌, ◌≤◌}
use native.Mathlib.Nat.{le_refl}
use native.Mathlib.Omega.{arith}
use lib.ListN.{length, take, get_or}
use lib.Seq.{take-suc, take-length}
use lib.Bits.{bit_xor, xor_comm, xor_self, xor_zero_l, xor_zero_r}
use Rattle.sets.proofs.Laws.{xor_assoc}
use Rattle.sets.proofs.Size.{xor-zero}
use Rattle.definitions.specs.Search.{gather, sort}
use Rattle.definitions.specs.Table.{Table}
use Rattle.definitions.specs.Ring.{Ring}
use Rattle.definitions.specs.Basis.{basis_rings}
use Rattle.definitions.specs.Assembly.{assembly_count, rings_in}
use Rattle.definitions.specs.AllRings.{before, all_rings}
use Rattle.definitions.specs.Smallest.{SumOf}
use Rattle.definitions.proofs.Lists.{NoRepeats, fresh_none, fresh_more, fresh_map, keep_in, gather_in, fresh_keep}
use Rattle.definitions.proofs.Sorting.{before_order, sort_in, sort_sorted}
use Rattle.definitions.proofs.Refusals.{Valid}
use Rattle.definitions.proofs.Rings.{all_rings_unique}
use Rattle.spans.proofs.Spans.{Span, none, skip, add, Indep, empty, more, xor_cancel, xor_undo, xor-left_comm, xor_cross, span_zero, span_eq}
use Rattle.spans.proofs.Choice.{sum→span, span→sum, indep_sub, independent_iff_indep}
use Rattle.cycles.proofs.Assemblies.{assembly_independent}
use Rattle.cycles.proofs.Groups.{InGroup, ring-by-earlier, ring_in_group, group_unique}
use Rattle.combining.specs.Gibbs.{group, clear?, rings_among, rings_from, combined}
use Rattle.combining.proofs.Combining.{clear_test}
use Rattle.combining.proofs.Turns.{sums_from, rings_snoc}

-- what the combination finds in all assemblies of a list of basis rings, one after another
unfoldable pub all_combined : List ℕ → List ℕ
all_combined rs = gather (assembly_count rs) (λ a. combined (rings_in rs a))

-- ---- lists without repeats

-- two of them with no common member, one after the other
fresh_append : {A : Type 0} {l m : List A} → NoRepeats l → NoRepeats m → ((x : A) → In x l → In x m → ⊥) → NoRepeats (l ++ m)
fresh_append fresh_none g h = g
fresh_append (fresh_more {x} {l} n f) g h =
    fresh_more (λ i. ⊎_elim n (h x (here refl)) (in-append l i)) (fresh_append f g (λ y i j. h y (there i) j))

-- some of them one after another, where no two have a common member
fresh_gather : {A : Type 0} (n : ℕ) (f : ℕ → List A) → ((k : ℕ) → k < n → NoRepeats (f k))
    → ((j k : ℕ) (x : A) → j < k → k < n → In x (f j) → In x (f k) → ⊥) → NoRepeats (gather n f)
unfolding gather
fresh_gather zero f each apart = fresh_none
fresh_gather (suc n) f each apart =
    fresh_append (fresh_gather n f (λ k l. each k (omega arith)) (λ j k x l m. apart j k x l (omega arith))) (each n (omega arith))
    (λ x i j. let (k, l, h) = (gather_in n f x).0 i in apart k n x l (omega arith) h j)

-- ---- the sums of a list of sets

-- each is one of the old sets with a sum of the others
sums-found : {x : ℕ} (olds l : List ℕ) → In x (sums_from olds l) → (o : ℕ) × In o olds × Span l (bit_xor o x)
unfolding sums_from
sums-found {x} olds [] i = (x, i, none (xor_self x))
sums-found {x} olds (r ∷ l) i =
    let (o, j, s) = sums-found (olds ++ group r olds) l i in
    ⊎_elim (λ k. (o, k, skip s))
    (λ k. let (u, m, e) = Memᴰ.of_map (bit_xor r) olds k in (u, m, add (span_eq (ap (λ z. bit_xor z x) (sym e) ∙ xor_assoc r u x) s)))
    (in-append olds j)

-- and each such is there
sums-has : {o x : ℕ} (olds l : List ℕ) → In o olds → Span l (bit_xor o x) → In x (sums_from olds l)
unfolding sums_from
sums-has {o} {x} olds [] i (none e) = Memᴰ.cast (sym (xor-zero o x e)) i
sums-has olds (r ∷ l) i (skip s) = sums-has (olds ++ group r olds) l (Memᴰ.append_left (group r olds) i) s
sums-has {o} {x} olds (r ∷ l) i (add s) = sums-has {o = bit_xor r o} (olds ++ group r olds) l (Memᴰ.append_right olds (Memᴰ.map (bit_xor r) i)) (span_eq (sym (xor_assoc r o x)) s)

-- the sums of a list are its span
sums_in_lem : (l : List ℕ) (x : ℕ) → In x (sums_from (0 ∷ []) l) ↔ Span l x
sums_in_lem l x = (
  λ i. let (o, j, s) = sums-found (0 ∷ []) l i in span_eq (ap (λ z. bit_xor z x) (eq_of_singleton j) ∙ xor_zero_l x) s,
  λ s. sums-has (0 ∷ []) l (here refl) (span_eq (sym (xor_zero_l x)) s),
)

-- what is found is among the sums
found-sums : {x : ℕ} (olds found l : List ℕ) → In x (rings_from olds found l) → In x (sums_from olds l)
unfolding sums_from rings_from
found-sums olds found [] i = absurd (not-in-nil i)
found-sums {x} olds found (r ∷ l) i =
    let new = rings_among found (group r olds) in
    let sums = olds ++ group r olds in
    ⊎_elim
    (λ j. sums-has sums l (Memᴰ.append_right olds ((keep_in (clear? found) x (group r olds)).0 j).0) (span_eq (sym (xor_self x)) (span_zero l)))
    (found-sums sums (found ++ new) l)
    (in-append new i)

-- so each set found is a sum of basis rings
pub combined-sum : (l : List ℕ) (x : ℕ) → In x (combined l) → SumOf l x
combined-sum l x i = span→sum ((sums_in_lem l x).0 (found-sums (0 ∷ []) [] l i))

-- no two of the old sets differ by a sum of the list
abbrev Unsummed : List ℕ → List ℕ → Type 0
Unsummed olds l = (o u : ℕ) → In o olds → In u olds → Span l (bit_xor o u) → o ≡ u

-- the sums of an independent list are different
sums_fresh : (olds : List ℕ) {l : List ℕ} → Indep l → NoRepeats olds → Unsummed olds l → NoRepeats (sums_from olds l)
unfolding sums_from
sums_fresh olds empty f sep = f
sums_fresh olds (more {v = r} {vs = l} n d) f sep = sums_fresh (olds ++ group r olds) d (fresh_append f (fresh_map (bit_xor r) f one) apart) both
  where
    one : (x y : ℕ) → In x olds → In y olds → bit_xor r x ≡ bit_xor r y → x ≡ y
    one x y i j e = sym (xor_cancel r x) ∙ ap (bit_xor r) e ∙ xor_cancel r y

    -- no old set differs from a new one by a sum of the list
    cross : (o u : ℕ) → In o olds → In u olds → Span l (bit_xor o (bit_xor r u)) → ⊥
    cross o u i j s =
        let e = sep o u i j (add (span_eq (xor-left_comm o r u) s)) in
        n (span_eq (ap (λ z. bit_xor o (bit_xor r z)) (sym e) ∙ xor-left_comm o r o ∙ ap (bit_xor r) (xor_self o) ∙ xor_zero_r r) s)

    apart : (x : ℕ) → In x olds → In x (group r olds) → ⊥
    apart x i j = let (u, k, e) = Memᴰ.of_map (bit_xor r) olds j in cross x u i k (span_eq (sym (ap (bit_xor x) e ∙ xor_self x)) (span_zero l))

    both : Unsummed (olds ++ group r olds) l
    both o u i j s = ⊎_elim (λ k. first k (in-append olds j)) (λ k. second k (in-append olds j)) (in-append olds i)
      where
        first : In o olds → In u olds ⊎ In u (group r olds) → o ≡ u
        first k (inl m) = sep o u k m (skip s)
        first k (inr m) = let (w, q, e) = Memᴰ.of_map (bit_xor r) olds m in absurd (cross o w k q (span_eq (ap (bit_xor o) (sym e)) s))

        second : In o (group r olds) → In u olds ⊎ In u (group r olds) → o ≡ u
        second k (inl m) =
            let (w, q, e) = Memᴰ.of_map (bit_xor r) olds k in absurd (cross u w m q (span_eq (xor_comm o u ∙ ap (bit_xor u) (sym e)) s))
        second k (inr m) =
            let (v, p, d) = Memᴰ.of_map (bit_xor r) olds k in
            let (w, q, e) = Memᴰ.of_map (bit_xor r) olds m in
            sym d ∙ ap (bit_xor r) (sep v w p q (skip (span_eq (ap₂ bit_xor (sym d) (sym e) ∙ xor_cross r v w) s))) ∙ e

-- ---- the groups of a list of basis rings

-- the group of the basis ring at place i
abbrev group_of : List ℕ → ℕ → List ℕ
group_of l i = group (get_or l i 0) (sums_from (0 ∷ []) (take i l))

-- what is found in it
abbrev found_of : List ℕ → ℕ → List ℕ
found_of l i = rings_among (combined (take i l)) (group_of l i)

-- what is found is found group by group
combined-groups : (l : List ℕ) (k : ℕ) → k ≤ length l → combined (take k l) ≡ gather k (found_of l)
unfolding gather rings_from
combined-groups l zero h = refl
combined-groups l (suc k) h =
    ap combined (take-suc l k 0 h)
    ∙ rings_snoc (0 ∷ []) [] (take k l) (get_or l k 0)
    ∙ ap (λ m. m ++ found_of l k) (combined-groups l k (omega arith))

-- the sets of the group are the sums of that basis ring and some before it
group_in : (l : List ℕ) (i s : ℕ) → In s (group_of l i) ↔ SumOf (take i l) (bit_xor s (get_or l i 0))
group_in l i s = (
  λ m. let (x, j, e) = Memᴰ.of_map (bit_xor r) (sums_from (0 ∷ []) (take i l)) m in span→sum (span_eq (sym (ap (λ z. bit_xor z r) (sym e) ∙ xor_comm (bit_xor r x) r ∙ xor_cancel r x)) ((sums_in_lem (take i l) x).0 j)),
  λ m. Memᴰ.cast (sym (xor_comm r (bit_xor s r) ∙ xor_undo s r)) (Memᴰ.map (bit_xor r) ((sums_in_lem (take i l) (bit_xor s r)).1 (sum→span m))),
)
  where
    r : ℕ
    r = get_or l i 0

-- ---- the assemblies of a table

-- a list's beginning is a part of it
take-sub : (i : ℕ) (l : List ℕ) → Sublistᴰ (take i l) l
take-sub zero [] = Sublistᴰ.slnil
take-sub zero (x ∷ l) = Sublistᴰ.cons (take-sub zero l)
take-sub (suc i) [] = Sublistᴰ.slnil
take-sub (suc i) (x ∷ l) = Sublistᴰ.cons-cons refl (take-sub i l)

module _ {M : Table} (valid : Valid M) where
  -- the basis rings of assembly a
  abbrev rings : ℕ → List ℕ
  rings a = rings_in (basis_rings M) a

  -- what is found before the i-th group is what is found in one before
  found_before : (a i u : ℕ) → i < length (rings a) → In u (combined (take i (rings a))) ↔ ((j : ℕ) × (j < i) × In u (found_of (rings a) j))
  found_before a i u h = rw (combined-groups (rings a) i (omega arith)) (gather_in i (found_of (rings a)) u)

  -- what is found in a group are its rings, by those of the groups before: a sum is kept where none of them is inside it
  group-rings_upto : (n a i s : ℕ) → i < n → i < length (rings a) → In s (found_of (rings a) i) ↔ (InGroup M a i s × Ring M s)
  group-rings_upto zero a i s b h = absurd (omega arith)
  group-rings_upto (suc n) a i s b h =
      let olds = combined (take i (rings a)) in
      let g = group_of (rings a) i in (
        λ m. let (j, t) = (keep_in (clear? olds) s g).0 m in
            let of : InGroup M a i s = record { place = h; sum = (group_in (rings a) i s).0 j } in (
              of,
              (ring-by-earlier valid of).1 (λ j u l k r part.
                  (clear_test olds s).0 t u ((found_before a i u h).1 (j, l, (group-rings_upto n a j u (omega arith) k.place).1 (k, r))) part),
            ),
        λ m. let (of, r) = m in
            (keep_in (clear? olds) s g).1 (
              (group_in (rings a) i s).1 of.sum,
              (clear_test olds s).1 (λ u m part.
                  let (j, l, f) = (found_before a i u h).0 m in
                  let (k, q) = (group-rings_upto n a j u (omega arith) (omega arith)).0 f in
                  (ring-by-earlier valid of).0 r j u l k q part),
            ),
      )

  -- so what is found in a group are its rings
  group-rings : (a i s : ℕ) → i < length (rings a) → In s (found_of (rings a) i) ↔ (InGroup M a i s × Ring M s)
  group-rings a i s h = group-rings_upto (suc i) a i s (omega arith) h

  -- what is found in an assembly is found in its groups
  by-groups : (a : ℕ) → combined (rings a) ≡ gather (length (rings a)) (found_of (rings a))
  by-groups a = ap combined (sym (take-length (rings a))) ∙ combined-groups (rings a) (length (rings a)) (le_refl (length (rings a)))

  -- so they are the rings of its groups
  combined_in : (a s : ℕ) → In s (combined (rings a)) ↔ (((i : ℕ) × InGroup M a i s) × Ring M s)
  combined_in a s = (
    λ m. let (i, h, j) = (gather_in (length (rings a)) (found_of (rings a)) s).0 (rw (by-groups a) at m) in
        let (k, r) = (group-rings a i s h).0 j in
        ((i, k), r),
    λ m. let ((i, k), r) = m in
        rw (by-groups a) ((gather_in (length (rings a)) (found_of (rings a)) s).1 (i, k.place, (group-rings a i s k.place).1 (k, r))),
  )

  -- each once: the sums of a group are different, and no set is in two groups
  combined_fresh : (a : ℕ) → NoRepeats (combined (rings a))
  combined_fresh a =
      subst⁻¹ NoRepeats (by-groups a)
      (fresh_gather (length (rings a)) (found_of (rings a)) (λ i h. fresh_keep (clear? (combined (take i (rings a)))) (different i))
      (λ i j s l h p q.
      let (k, _) = (group-rings a i s (omega arith)).0 p in
      let (m, _) = (group-rings a j s h).0 q in
      let e = (group_unique valid k m).1 in
      omega arith))
    where
      independent : (i : ℕ) → Indep (take i (rings a))
      independent i = indep_sub (take-sub i (rings a)) ((independent_iff_indep (rings a)).0 (assembly_independent valid a))

      different : (i : ℕ) → NoRepeats (group_of (rings a) i)
      different i =
          fresh_map (bit_xor (get_or (rings a) i 0))
          (sums_fresh (0 ∷ []) (independent i) (fresh_more not-in-nil fresh_none) (λ o u p q s. eq_of_singleton p ∙ sym (eq_of_singleton q)))
          (λ x y p q e. sym (xor_cancel (get_or (rings a) i 0) x) ∙ ap (bit_xor (get_or (rings a) i 0)) e ∙ xor_cancel (get_or (rings a) i 0) y)

  -- what is found in all assemblies are the rings
  pub all_combined_in : (s : ℕ) → In s (all_combined (basis_rings M)) ↔ Ring M s
  unfolding all_combined
  all_combined_in s = (
    λ m. let (a, h, j) = (gather_in (assembly_count (basis_rings M)) (λ a. combined (rings a)) s).0 m in ((combined_in a s).0 j).1,
    λ r. let (a, h, i, k) = ring_in_group valid r in
        (gather_in (assembly_count (basis_rings M)) (λ a. combined (rings a)) s).1 (a, h, (combined_in a s).1 ((i, k), r)),
  )

  -- each once
  all_combined_fresh : NoRepeats (all_combined (basis_rings M))
  unfolding all_combined
  all_combined_fresh =
      fresh_gather (assembly_count (basis_rings M)) (λ a. combined (rings a)) (λ a h. combined_fresh a)
      (λ a b s l h p q.
      let ((i, k), _) = (combined_in a s).0 p in
      let ((j, m), _) = (combined_in b s).0 q in
      let e = (group_unique valid k m).0 in
      omega arith)

  -- so in order they are the list of all rings
  pub all_combined_lem : sort before (all_combined (basis_rings M)) ≡ all_rings M
  all_combined_lem =
      all_rings_unique M (sort before (all_combined (basis_rings M))) (sort_sorted before_order all_combined_fresh)
      (λ s. (λ i. (all_combined_in s).0 ((sort_in before (all_combined (basis_rings M)) s).0 i), λ r. (sort_in before (all_combined (basis_rings M)) s).1 ((all_combined_in s).1 r)))
