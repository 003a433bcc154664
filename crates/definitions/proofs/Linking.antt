-- Assemblies. The pairs of basis rings that share a bond join exactly the rings that are linked, so each ring's leader is the first
-- ring that it is linked with; an assembly's number counts the leaders before its own. Assumes nothing.
use mathlib.Core.Path.{◌≡◌, refl, sym, ap, ◌∙◌}
use mathlib.Core.Bool.{Bool, true, not, cond}
use mathlib.Core.List.{List, [], ◌∷◌, Memᴰ as In}
use mathlib.Core.Logic.Iff
use mathlib.Core.Logic.{◌↔◌}
use Prim.Native.Nat.{ℕ, zero, suc, ◌+◌, ◌≤◌, ◌<◌}
use native.Mathlib.Omega.{arith}
use borrow.Author.Tests.{eqb-true, eqb-false, eq-eqb, ltb-true, ltb-false, lt-ltb, le-ltb}
use lib.Bits.{and_comm}
use lib.Dec.{eqb, ltb}
use lib.ListN.{length, get_or, length-map, get_or-map}
use lib.Seq.{ext_get_or}
use Rattle.definitions.specs.Search.{count, listed, gather, total}
use Rattle.definitions.specs.Assembly.{share?, Linked, sharing, leaders, rank, assemblies_of, assembly_count, rings_in}
use Rattle.definitions.specs.Assembly.Linked.{same, by as shares}
use Rattle.definitions.proofs.Tests.{by, not_failed, below_next}
use Rattle.definitions.proofs.Lists.{gather_in, listed_in, count-lt, count_mono, count_find, count_none, count_all, length-listed, listed_ext, total-append, length-gather}
use Rattle.definitions.proofs.Classes.{Joined, here, forth, back, Within, classes-length, classes_joined, classes-least}

-- ---- linked rings

-- what i shares with j, j shares with i
pub share_sym : (rs : List ℕ) (i j : ℕ) → share? rs i j ≡ share? rs j i
share_sym rs i j = ap (λ (x : ℕ). not (eqb x 0)) (and_comm (get_or rs i 0) (get_or rs j 0))

-- being linked goes through others, and both ways
pub linked_trans : {rs : List ℕ} {i j k : ℕ} → Linked rs i j → Linked rs j k → Linked rs i k
linked_trans same q = q
linked_trans (shares l h e p) q = shares l h e (linked_trans p q)

-- the rings linked with i are in every part that holds i and holds with each ring those that share a bond with it
pub linked_closed : {rs : List ℕ} (p : ℕ → Bool) → ((i j : ℕ) → i < length rs → j < length rs → p i ≡ true → share? rs i j ≡ true → p j ≡ true)
    → {i j : ℕ} → Linked rs i j → p i ≡ true → p j ≡ true
linked_closed p f same h = h
linked_closed p f (shares {i} {j} l m e q) h = linked_closed p f q (f i j l m h e)

-- ---- the pairs join the rings that are linked

-- ring i with each ring before it that shares a bond
abbrev pairs : List ℕ → ℕ → List (ℕ × ℕ)
pairs rs i = listed i (share? rs i) (λ j. (i, j))

-- a pair is of two rings of the list, the later one first, that share a bond
sharing-found : (rs : List ℕ) (e : ℕ × ℕ) → In e (sharing rs) → (e.0 < length rs) × (e.1 < e.0) × (share? rs e.0 e.1 ≡ true)
unfolding sharing
sharing-found rs e m =
    let (k, l, n) = (gather_in (length rs) (pairs rs) e).0 m in
    let (j, h, t, q) = (listed_in k (share? rs k) (λ j. (k, j)) e).0 n in
    rw (← q) (l, h, t)

sharing-has : (rs : List ℕ) (i j : ℕ) → i < length rs → j < i → share? rs i j ≡ true → In (i, j) (sharing rs)
unfolding sharing
sharing-has rs i j l h t = (gather_in (length rs) (pairs rs) (i, j)).1 (i, l, (listed_in i (share? rs i) (λ j. (i, j)) (i, j)).1 (j, h, t, refl))

-- and all pairs are of rings of the list
sharing-within : (rs : List ℕ) → Within (length rs) (sharing rs)
sharing-within rs e m = let (l, h, t) = sharing-found rs e m in (l, omega arith)

-- what pairs join is linked: each pair is a step, either way
joined_linked : {rs : List ℕ} {i j : ℕ} → Joined (sharing rs) i j → Linked rs i j
joined_linked here = same
joined_linked {rs} (forth {a} {b} m p) = let (l, h, t) = sharing-found rs (a, b) m in shares {i = a} {j = b} l (omega arith) t (joined_linked p)
joined_linked {rs} (back {a} {b} m p) = let (l, h, t) = sharing-found rs (b, a) m in shares {i = a} {j = b} (omega arith) l (share_sym rs a b ∙ t) (joined_linked p)

-- and what is linked is joined: a step to an earlier ring, to a later one, or to the ring itself
linked_joined : {rs : List ℕ} {i j : ℕ} → Linked rs i j → Joined (sharing rs) i j
linked_joined same = here
linked_joined {rs} (shares {i} {j} {k} l h e p) =
    let q = linked_joined p in
    by (ltb j i) (λ t. forth (sharing-has rs i j l (ltb-true j i t) e) q)
    (λ t. by (ltb i j) (λ u. back (sharing-has rs j i h (ltb-true i j u) (share_sym rs j i ∙ e)) q)
    (λ u. let z : i ≡ j = omega (arith, ltb-false i j u, ltb-false j i t) in rw z q))

-- rings are linked where the pairs join them
pub joined_iff_linked : (rs : List ℕ) (i j : ℕ) → Joined (sharing rs) i j ↔ Linked rs i j
joined_iff_linked rs i j = (joined_linked, linked_joined)

-- ---- leaders

-- the first ring that ring i is linked with
abbrev pub leader : List ℕ → ℕ → ℕ
leader rs i = get_or (leaders rs) i 0

-- each ring has a leader
pub length-leaders : (rs : List ℕ) → length (leaders rs) ≡ length rs
unfolding leaders
length-leaders rs = classes-length (length rs) (sharing rs)

-- rings have the same leader where they are linked, and nowhere else
pub leaders_linked : (rs : List ℕ) (i j : ℕ) → i < length rs → j < length rs → (leader rs i ≡ leader rs j) ↔ Linked rs i j
unfolding leaders
leaders_linked rs i j l h = Iff.trans (classes_joined (length rs) (sharing rs) (sharing-within rs) i j l h) (joined_iff_linked rs i j)

-- x is the first ring that i is linked with
pub record Leader (rs : List ℕ) (i x : ℕ) : Type 0 where
  pub linked : Linked rs i x
  pub low : x ≤ i
  pub own : leader rs x ≡ x
  pub least : (j : ℕ) → j < length rs → Linked rs i j → x ≤ j

-- a ring's leader is that ring
pub leaders-first : (rs : List ℕ) (i : ℕ) → i < length rs → Leader rs i (leader rs i)
unfolding leaders
leaders-first rs i l =
    let c = classes-least (length rs) (sharing rs) (sharing-within rs) i l in
    record { linked = joined_linked c.joined; low = c.low; own = c.own; least = λ j h p. c.least j h (linked_joined p) }

-- ring i is the first of its assembly: it is its own leader
abbrev pub first? : List ℕ → ℕ → Bool
first? rs i = eqb (leader rs i) i

-- so no ring before it is linked with it
pub first_test : (rs : List ℕ) (i : ℕ) → i < length rs → (first? rs i ≡ true) ↔ ((j : ℕ) → j < i → Linked rs i j → ⊥)
first_test rs i l =
    let f = leaders-first rs i l in (
      λ e j h p. omega (arith, f.least j (omega arith) p, eqb-true (leader rs i) i e),
      λ none. not_failed (first? rs i) (λ e. none (leader rs i) (omega (arith, f.low, eqb-false (leader rs i) i e)) f.linked),
    )

-- ---- numbers

-- the number of ring i's assembly
abbrev pub number : List ℕ → ℕ → ℕ
number rs i = get_or (assemblies_of rs) i 0

-- each ring has a number
pub length-assemblies : (rs : List ℕ) → length (assemblies_of rs) ≡ length rs
unfolding assemblies_of
length-assemblies rs = length-map (leaders rs) (rank (leaders rs)) ∙ length-leaders rs

-- it counts the first rings before the assembly's own
pub number_counts : (rs : List ℕ) (i : ℕ) → number rs i ≡ count (leader rs i) (first? rs)
unfolding assemblies_of rank count
number_counts rs i = get_or-map (rank (leaders rs)) (leaders rs) i 0

-- the number of a first ring is how many first rings stand before it
pub number-first : (rs : List ℕ) (i : ℕ) → first? rs i ≡ true → number rs i ≡ count i (first? rs)
number-first rs i e = number_counts rs i ∙ ap (λ (x : ℕ). count x (first? rs)) (eqb-true (leader rs i) i e)

-- there are as many assemblies as first rings
pub assembly_count_lem : (rs : List ℕ) → assembly_count rs ≡ count (length rs) (first? rs)
unfolding assembly_count rank
assembly_count_lem rs = refl

-- leaders with as many first rings before them are one
rank_leader : (rs : List ℕ) (x y : ℕ) → leader rs x ≡ x → leader rs y ≡ y → count x (first? rs) ≡ count y (first? rs) → x ≡ y
rank_leader rs x y p q e =
    by (ltb x y) (λ t. absurd (omega (arith, count-lt (first? rs) y x (ltb-true x y t) (eq-eqb (leader rs x) x p))))
    (λ t. by (ltb y x) (λ u. absurd (omega (arith, count-lt (first? rs) x y (ltb-true y x u) (eq-eqb (leader rs y) y q))))
    (λ u. omega (arith, ltb-false x y t, ltb-false y x u)))

-- rings have the same number where they are linked, and nowhere else
pub linked_test : (rs : List ℕ) (i j : ℕ) → i < length rs → j < length rs → (get_or (assemblies_of rs) i 0 ≡ get_or (assemblies_of rs) j 0) ↔ Linked rs i j
linked_test rs i j l h = (
  λ e. (leaders_linked rs i j l h).0 (rank_leader rs (leader rs i) (leader rs j) (leaders-first rs i l).own (leaders-first rs j h).own
      (sym (number_counts rs i) ∙ e ∙ number_counts rs j)),
  λ p. number_counts rs i ∙ ap (λ (x : ℕ). count x (first? rs)) ((leaders_linked rs i j l h).1 p) ∙ sym (number_counts rs j),
)

-- every number is below the number of assemblies
pub number_below : (rs : List ℕ) (i : ℕ) → i < length rs → number rs i < assembly_count rs
number_below rs i l =
    let f = leaders-first rs i l in
    omega (
      arith,
      number_counts rs i,
      assembly_count_lem rs,
      count-lt (first? rs) (length rs) (leader rs i) (omega (arith, f.low)) (eq-eqb (leader rs (leader rs i)) (leader rs i) f.own),
    )

-- and each number below that is the number of a first ring
pub number-occurs : (rs : List ℕ) (a : ℕ) → a < assembly_count rs → (i : ℕ) × (i < length rs) × (first? rs i ≡ true) × (number rs i ≡ a)
number-occurs rs a l =
    let (i, h, t, e) = count_find (first? rs) (length rs) a (omega (arith, assembly_count_lem rs)) in
    (i, h, t, number-first rs i t ∙ e)

-- ---- the numbers are given from 0 on

-- each number below that of a ring is the number of an earlier one
pub number_lower : (rs : List ℕ) (i m : ℕ) → i < length rs → m < number rs i → (j : ℕ) × (j < i) × (number rs j ≡ m)
number_lower rs i m l h =
    let (j, a, t, e) = count_find (first? rs) (leader rs i) m (omega (arith, number_counts rs i)) in
    (j, omega (arith, (leaders-first rs i l).low), number-first rs j t ∙ e)

-- a number for each ring: linked rings have the same number, others do not, and each number below it is that of an earlier ring
pub record Numbering (rs ns : List ℕ) : Type 0 where
  pub counted : length ns ≡ length rs
  pub together : (i j : ℕ) → i < length rs → j < length rs → (get_or ns i 0 ≡ get_or ns j 0) ↔ Linked rs i j
  pub lower : (i m : ℕ) → i < length rs → m < get_or ns i 0 → (j : ℕ) × (j < i) × (get_or ns j 0 ≡ m)

-- the numbers of the assemblies are so
pub assemblies_numbering : (rs : List ℕ) → Numbering rs (assemblies_of rs)
assemblies_numbering rs = record { counted = length-assemblies rs; together = linked_test rs; lower = number_lower rs }

-- of two that agree before a ring neither has the lower number at it: that number would be of an earlier ring, which is not linked with it
numbering_step : {rs ns ms : List ℕ} → Numbering rs ns → Numbering rs ms → (i : ℕ) → i < length rs
    → ((j : ℕ) → j < i → get_or ns j 0 ≡ get_or ms j 0) → get_or ms i 0 ≤ get_or ns i 0
numbering_step {rs} {ns} {ms} n m i l h =
    by (ltb (get_or ns i 0) (get_or ms i 0))
    (λ t. let less = ltb-true (get_or ns i 0) (get_or ms i 0) t in
    let (j, a, e) = m.lower i (get_or ns i 0) l less in
    let linked : Linked rs i j = (n.together i j l (omega arith)).0 (sym e ∙ sym (h j a)) in
    absurd (omega (arith, (m.together i j l (omega arith)).1 linked)))
    (λ t. ltb-false (get_or ns i 0) (get_or ms i 0) t)

-- so two are one
pub numbering_unique : {rs ns ms : List ℕ} → Numbering rs ns → Numbering rs ms → ns ≡ ms
numbering_unique {rs} {ns} {ms} n m =
    ext_get_or 0 ns ms (n.counted ∙ sym m.counted) (λ i l. up_to (suc i) i (omega arith) (omega (arith, n.counted)))
  where
    up_to : (k i : ℕ) → i < k → i < length rs → get_or ns i 0 ≡ get_or ms i 0
    up_to zero i h l = absurd (omega arith)
    up_to (suc k) i h l =
        let before : (j : ℕ) → j < i → get_or ns j 0 ≡ get_or ms j 0 = λ j t. up_to k j (omega arith) (omega arith) in
        omega (arith, numbering_step n m i l before, numbering_step m n i l (λ j t. sym (before j t)))

-- and the numbers of the assemblies are the only ones
pub assemblies_unique : {rs ns : List ℕ} → Numbering rs ns → ns ≡ assemblies_of rs
assemblies_unique {rs} n = numbering_unique n (assemblies_numbering rs)

-- ---- assemblies that are numbered one by one

-- the first ring whose number is not below a has the number a
pub number_next : (rs : List ℕ) (a i : ℕ) → i < length rs → ((j : ℕ) → j < i → number rs j < a) → a ≤ number rs i → number rs i ≡ a
number_next rs a i l low h =
    let (k, m, t, e) = number-occurs rs a (omega (arith, number_below rs i l)) in
    let first : first? rs i ≡ true
    = (first_test rs i l).1 (λ j u p. absurd (omega (arith, low j u, (linked_test rs i j l (omega arith)).1 p))) in
    by (ltb k i) (λ u. absurd (omega (arith, low k (ltb-true k i u))))
    (λ u. omega (arith, number-first rs i first, number-first rs k t, count_mono (first? rs) i k (ltb-false k i u)))

-- where no ring is left, all assemblies are numbered
pub number_all : (rs : List ℕ) (a : ℕ) → a ≤ assembly_count rs → ((j : ℕ) → j < length rs → number rs j < a) → a ≡ assembly_count rs
number_all rs a h low =
    by (ltb a (assembly_count rs))
    (λ u. let (k, m, t, e) = number-occurs rs a (ltb-true a (assembly_count rs) u) in absurd (omega (arith, low k m)))
    (λ u. omega (arith, ltb-false a (assembly_count rs) u))

-- ---- the rings of an assembly

-- they are the rings with its number
pub rings_in_lem : (rs : List ℕ) (a s : ℕ) → In s (rings_in rs a) ↔ ((i : ℕ) × (i < length rs) × (number rs i ≡ a) × (get_or rs i 0 ≡ s))
unfolding rings_in
rings_in_lem rs a s =
    let m = listed_in (length rs) (λ i. eqb (number rs i) a) (λ i. get_or rs i 0) s in (
      λ x. let (i, l, t, e) = m.0 x in (i, l, eqb-true (number rs i) a t, e),
      λ (i, l, q, e). m.1 (i, l, eq-eqb (number rs i) a q, e),
    )

-- as many as have its number
pub length-rings_in : (rs : List ℕ) (a : ℕ) → length (rings_in rs a) ≡ count (length rs) (λ i. eqb (number rs i) a)
unfolding rings_in
length-rings_in rs a = length-listed (length rs) (λ i. eqb (number rs i) a) (λ i. get_or rs i 0)

-- each ring is in its own assembly
pub ring_in_own : (rs : List ℕ) (i : ℕ) → i < length rs → In (get_or rs i 0) (rings_in rs (number rs i))
ring_in_own rs i l = (rings_in_lem rs (number rs i) (get_or rs i 0)).1 (i, l, refl, refl)

-- a test that says of each number what one of two others says, and never both, counts as many as the two
count-two : (n : ℕ) (p q r : ℕ → Bool) → ((k : ℕ) → k < n → cond (r k) 1 0 ≡ cond (p k) 1 0 + cond (q k) 1 0) → count n r ≡ count n p + count n q
unfolding count
count-two zero p q r h = refl
count-two (suc n) p q r h = omega (arith, count-two n p q r (λ k l. h k (omega arith)), h n (omega arith))

-- numbers f i below m are each counted once, over all values below m
count_values : (n m : ℕ) (f : ℕ → ℕ) → total (listed m (λ a. true) (λ a. count n (λ i. eqb (f i) a))) ≡ count n (λ i. ltb (f i) m)
unfolding total listed
count_values n zero f = sym (count_none (λ i. ltb (f i) 0) n (λ i l. le-ltb (f i) 0 (omega arith)))
count_values n (suc m) f =
    total-append (listed m (λ a. true) (λ a. count n (λ i. eqb (f i) a))) (count n (λ i. eqb (f i) m) ∷ [])
    ∙ omega (arith, count_values n m f, count-two n (λ i. ltb (f i) m) (λ i. eqb (f i) m) (λ i. ltb (f i) (suc m)) (λ i l. below_next (f i) m 1))

-- the assemblies hold all rings
pub rings-total : (rs : List ℕ) → total (listed (assembly_count rs) (λ a. true) (λ a. length (rings_in rs a))) ≡ length rs
rings-total rs =
    let m = assembly_count rs in
    ap total (listed_ext m (λ a. true) (λ a. true) (λ a. length (rings_in rs a)) (λ a. count (length rs) (λ i. eqb (number rs i) a)) (λ a l. refl) (λ a l e. length-rings_in rs a))
    ∙ count_values (length rs) m (number rs)
    ∙ count_all (λ i. ltb (number rs i) m) (length rs) (λ i l. lt-ltb (number rs i) m (number_below rs i l))

-- one assembly after another, they are as many as the rings
pub length_assembled : (rs : List ℕ) → length (gather (assembly_count rs) (rings_in rs)) ≡ length rs
length_assembled rs = length-gather (assembly_count rs) (rings_in rs) ∙ rings-total rs
