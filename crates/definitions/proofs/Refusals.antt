-- The refusals by their sentences: the number of the first test that passes is told by the sentences of `specs/Sentences.antt`, and by what
-- holds where they don't; 0 is given exactly where none holds, which the record `Valid` names. A number goes by the place of its test in the
-- list, not by its size. Assumes nothing.
use mathlib.Core.Path.{◌≡◌, refl, sym, ap, subst, ◌∙◌}
use mathlib.Core.Logic.{◌↔◌, ◌≢◌, ◌⊎◌, ⊎_elim}
use mathlib.Core.Bool.{Bool, true, false, not, ◌&&◌, ◌||◌, cond, false≢true}
use mathlib.Core.List.{List, [], ◌∷◌, ◌++◌, map}
use mathlib.Core.List.Memᴰ.{cases_cons as in-cons}
use mathlib.Core.List.Memᴰ.{head as here}
use mathlib.Core.List.Memᴰ.{not-nil as not-in-nil}
use mathlib.Core.List.Memᴰ.{tail as there}
use mathlib.Core.List.{Memᴰ as In}
use Prim.Native.Nat.{ℕ, zero, suc, ◌%◌, ◌<◌, ◌≤◌}
use native.Mathlib.Nat.{not-suc-le-zero}
use native.Mathlib.Omega.{arith}
use lib.ListN.{length, get_or}
use lib.Dec.{leb, ltb, eqb, lit<}
use borrow.Author.Tests.{eqb-true, eqb-false, not-true, not-false}
use Rattle.definitions.specs.Search.{Each}
use Rattle.definitions.specs.Table.{Table, bonds, tail, head, max_atoms, max_bonds, alike?, seen_before?, table_tests, first_of, refusal, ODD, ATOMS, BONDS, TANGLED, ROOM, NOTRING}
use Rattle.definitions.specs.Ring.{Ring, ring?}
use Rattle.definitions.specs.Basis.{basis_rings}
use Rattle.definitions.specs.Assembly.{assembly_count, rings_in, max_assembly, tangled?}
use Rattle.definitions.specs.Answer.{refusal_of_rings, refusal_of_walk, outcome}
use Rattle.definitions.specs.Sentences.{OddBytes, BadCount, ManyBonds, Alike, Tangled, NoRing, TooShort, wrongs, wrongs_of_rings, wrongs_of_walk, or_no_room, placed, Told}
use Rattle.definitions.proofs.Tests.{by, each_more, not_passed, and_both, clashes, Tells, true_of, false_of, tells_leb, tells_ltb, tells_eqb, tells_or, tells_and, tells_as, tells_not, tells_turned, tells_some}
use Rattle.definitions.proofs.Rings.{ring_test}

-- ---- the first of a list of numbered tests that passes

-- test i, and one that fails past the end
abbrev pub test_at : List (ℕ × Bool) → ℕ → ℕ × Bool
test_at ts i = get_or ts i (0, false)

-- x is no number of the list
unfoldable absent? : ℕ → List ℕ → Bool
absent? x [] = true
absent? x (y ∷ l) = not (eqb x y) && absent? x l

-- the numbers are not 0, and pairwise different
unfoldable distinct? : List ℕ → Bool
distinct? [] = true
distinct? (x ∷ l) = not (eqb x 0) && (absent? x l && distinct? l)

-- the numbers of the tests
abbrev pub numbers : List (ℕ × Bool) → List ℕ
numbers ts = map (λ t. t.0) ts

-- the test at i passes, and none before it does
abbrev pub FirstAt : List (ℕ × Bool) → ℕ → Type 0
FirstAt ts i = Each i (λ j. (test_at ts j).1 ≡ false) × ((test_at ts i).1 ≡ true)

pub first-at : (ts : List (ℕ × Bool)) (i : ℕ) → FirstAt ts i → first_of ts ≡ (test_at ts i).0
unfolding first_of
first-at [] i h = absurd (false≢true h.1)
first-at (t ∷ ts) zero h = rw h.1
first-at (t ∷ ts) (suc i) h = rw (h.0 0 (omega arith)) (first-at ts i (λ j l. h.0 (suc j) (omega arith), h.1))

-- the number that is given is 0 or that of a test
first_in : (ts : List (ℕ × Bool)) → first_of ts ≢ 0 → In (first_of ts) (numbers ts)
unfolding first_of
first_in [] h = absurd (h refl)
first_in (t ∷ ts) h = by t.1 (λ p. rw p (here refl)) (λ p. rw p (there (first_in ts (rw p at h))))

-- an absent number is no member
absent_out : (x : ℕ) (l : List ℕ) → absent? x l ≡ true → In x l → ⊥
unfolding absent?
absent_out x [] a m = not-in-nil m
absent_out x (y ∷ l) a m =
    let h = and_both (not (eqb x y)) (absent? x l) a in
    ⊎_elim (eqb-false x y (not-true _ h.0)) (absent_out x l h.1) (in-cons m)

-- so a number that no test has is not given
first-other : (x : ℕ) (ts : List (ℕ × Bool)) → x ≢ 0 → absent? x (numbers ts) ≡ true → first_of ts ≢ x
first-other x ts z a e = absent_out x (numbers ts) a (rw e at (first_in ts (λ n. z (sym e ∙ n))))

absent_at : (x : ℕ) (ts : List (ℕ × Bool)) (i : ℕ) → absent? x (numbers ts) ≡ true → i < length ts → x ≢ (test_at ts i).0
unfolding absent?
absent_at x [] i a l = absurd (not-suc-le-zero l)
absent_at x (t ∷ ts) zero a l = eqb-false x t.0 (not-true _ (and_both (not (eqb x t.0)) (absent? x (numbers ts)) a).0)
absent_at x (t ∷ ts) (suc i) a l = absent_at x ts i (and_both (not (eqb x t.0)) (absent? x (numbers ts)) a).1 (omega arith)

first_back : (ts : List (ℕ × Bool)) (i : ℕ) → distinct? (numbers ts) ≡ true → i < length ts → first_of ts ≡ (test_at ts i).0 → FirstAt ts i
unfolding first_of distinct?
first_back [] i d l e = absurd (not-suc-le-zero l)
first_back (t ∷ ts) i d l e = go i l e (λ k m f. first_back ts k later.1 m f)
  where
    parts : (not (eqb t.0 0) ≡ true) × (absent? t.0 (numbers ts) && distinct? (numbers ts) ≡ true)
    parts = and_both (not (eqb t.0 0)) (absent? t.0 (numbers ts) && distinct? (numbers ts)) d

    later : (absent? t.0 (numbers ts) ≡ true) × (distinct? (numbers ts) ≡ true)
    later = and_both (absent? t.0 (numbers ts)) (distinct? (numbers ts)) parts.1

    cons : (i : ℕ) → t.1 ≡ false → FirstAt ts i → FirstAt (t ∷ ts) (suc i)
    cons i p r = (elim [ zero ↦ λ l. p | suc j ↦ λ l. r.0 j (omega arith) ], r.1)

    go : (i : ℕ) → i < length (t ∷ ts) → cond t.1 t.0 (first_of ts) ≡ (test_at (t ∷ ts) i).0
        → ((k : ℕ) → k < length ts → first_of ts ≡ (test_at ts k).0 → FirstAt ts k) → FirstAt (t ∷ ts) i
    go zero l e ih =
        by t.1
        (λ p. (λ j l. absurd (not-suc-le-zero l), p))
        (λ p. absurd (first-other t.0 ts (eqb-false t.0 0 (not-true _ parts.0)) later.0 (rw p at e)))
    go (suc i) l e ih =
        by t.1
        (λ p. absurd (absent_at t.0 ts i later.0 (omega arith) (rw p at e)))
        (λ p. cons i p (ih i (omega arith) (rw p at e)))

-- no test passes
pub first-none : (ts : List (ℕ × Bool)) → Each (length ts) (λ j. (test_at ts j).1 ≡ false) → first_of ts ≡ 0
unfolding first_of
first-none [] h = refl
first-none (t ∷ ts) h = rw (h 0 (omega arith)) (first-none ts (λ j l. h (suc j) (omega arith)))

none-back : (ts : List (ℕ × Bool)) → distinct? (numbers ts) ≡ true → first_of ts ≡ 0 → (j : ℕ) → (test_at ts j).1 ≡ false
unfolding first_of distinct?
none-back [] d e j = refl
none-back (t ∷ ts) d e j =
    let h = and_both (not (eqb t.0 0)) (absent? t.0 (numbers ts) && distinct? (numbers ts)) d in
    by t.1
    (λ p. absurd (eqb-false t.0 0 (not-true _ h.0) (rw p at e)))
    (λ p. go j p (none-back ts (and_both (absent? t.0 (numbers ts)) (distinct? (numbers ts)) h.1).1 (rw p at e)))
  where
    go : (j : ℕ) → t.1 ≡ false → ((j : ℕ) → (test_at ts j).1 ≡ false) → (test_at (t ∷ ts) j).1 ≡ false
    go zero p ih = p
    go (suc j) p ih = ih j

-- numbered tests, each with the sentence that it tells and with what holds where it fails
data Tell : List (ℕ × Bool) → List (ℕ × Type 0) → List (Type 0) → Type 1 where
  none : Tell [] [] []
  more : {n : ℕ} {b : Bool} {P N : Type 0} {ts : List (ℕ × Bool)} {Ps : List (ℕ × Type 0)} {Ns : List (Type 0)} → Tells b P N → Tell ts Ps Ns
      → Tell ((n, b) ∷ ts) ((n, P) ∷ Ps) (N ∷ Ns)

-- past the end there is a test that fails
tell_at : {ts : List (ℕ × Bool)} {Ps : List (ℕ × Type 0)} {Ns : List (Type 0)} → Tell ts Ps Ns → (i : ℕ)
    → Tells (test_at ts i).1 (placed Ps i).1 (get_or Ns i (Unit {0}))
tell_at none i = record { yes_says = λ e. absurd (false≢true e); no_says = λ e. tt; clash = λ p q. p }
tell_at (more t ts) zero = t
tell_at (more t ts) (suc i) = tell_at ts i

-- sentences and tests have the same numbers, and there are as many
tell_number : {ts : List (ℕ × Bool)} {Ps : List (ℕ × Type 0)} {Ns : List (Type 0)} → Tell ts Ps Ns → (i : ℕ)
    → (test_at ts i).0 ≡ (placed Ps i).0
tell_number none i = refl
tell_number (more t ts) zero = refl
tell_number (more t ts) (suc i) = tell_number ts i

tell_length : {ts : List (ℕ × Bool)} {Ps : List (ℕ × Type 0)} {Ns : List (Type 0)} → Tell ts Ps Ns → length Ps ≡ length ts
tell_length none = refl
tell_length (more t ts) = ap suc (tell_length ts)

-- one more test at the end
tell_last : {ts : List (ℕ × Bool)} {Ps : List (ℕ × Type 0)} {Ns : List (Type 0)} (n : ℕ) {b : Bool} {P N : Type 0}
    → Tell ts Ps Ns → Tells b P N → Tell (ts ++ ((n, b) ∷ [])) (Ps ++ ((n, P) ∷ [])) (Ns ++ (N ∷ []))
tell_last n none u = more u none
tell_last n (more t ts) u = more t (tell_last n ts u)

-- the first i propositions of a list, written out as nested pairs
abbrev pub Upto : ℕ → List (Type 0) → Type 0
Upto zero Ns = Unit {0}
Upto (suc i) [] = Unit {0}
Upto (suc i) (N ∷ Ns) = N × Upto i Ns

each_of_upto : (i : ℕ) (Ns : List (Type 0)) → Upto i Ns → Each i (λ j. get_or Ns j (Unit {0}))
each_of_upto zero Ns u j l = absurd (not-suc-le-zero l)
each_of_upto (suc i) [] u j l = tt
each_of_upto (suc i) (N ∷ Ns) u zero l = u.0
each_of_upto (suc i) (N ∷ Ns) u (suc j) l = each_of_upto i Ns u.1 j (omega arith)

upto_of_each : (i : ℕ) (Ns : List (Type 0)) → Each i (λ j. get_or Ns j (Unit {0})) → Upto i Ns
upto_of_each zero Ns h = tt
upto_of_each (suc i) [] h = tt
upto_of_each (suc i) (N ∷ Ns) h = (h 0 (omega arith), upto_of_each i Ns (λ j l. h (suc j) (omega arith)))

module _ {ts : List (ℕ × Bool)} {Ps : List (ℕ × Type 0)} {Ns : List (Type 0)} (t : Tell ts Ps Ns) where
  -- the first i tests fail exactly where what they then say holds
  fail_reads : (i : ℕ) → Each i (λ j. (test_at ts j).1 ≡ false) ↔ Upto i Ns
  fail_reads i = (
    λ h. upto_of_each i Ns (λ j l. (tell_at t j).no_says (h j l)),
    λ u j l. false_of (tell_at t j) (each_of_upto i Ns u j l),
  )

  module _ (d : distinct? (numbers ts) ≡ true) where
    -- the number of the test at i is given exactly where it passes and those before it fail
    first_reads : (i : ℕ) → i < length ts → (first_of ts ≡ (test_at ts i).0) ↔ (Upto i Ns × (placed Ps i).1)
    first_reads i l = (
      λ e. let h = first_back ts i d l e in ((fail_reads i).0 h.0, (tell_at t i).yes_says h.1),
      λ h. first-at ts i ((fail_reads i).1 h.0, true_of (tell_at t i) h.1),
    )

    -- and 0 exactly where all fail
    none_reads : (first_of ts ≡ 0) ↔ Upto (length ts) Ns
    none_reads = (
      λ e. (fail_reads (length ts)).0 (λ j l. none-back ts d e j),
      λ u. first-none ts ((fail_reads (length ts)).1 u),
    )

    -- so the number that is given is told by the sentences
    told-first : Told Ps (first_of ts)
    told-first =
        record {
          first = λ i l. (
            λ e. let h = first_back ts i d (rw (tell_length t) at l) (e ∙ sym (tell_number t i)) in
                ((tell_at t i).yes_says h.1, λ j m p. clashes (true_of (tell_at t j) p) (h.0 j m)),
            λ h. first-at ts i (λ j m. not_passed _ (λ p. h.1 j m ((tell_at t j).yes_says p)), true_of (tell_at t i) h.0) ∙ tell_number t i,
          );
          none = (
            λ e j l p. clashes (true_of (tell_at t j) p) (none-back ts d e j),
            λ h. first-none ts (λ j l. not_passed _ (λ p. h j (rw (tell_length t) l) ((tell_at t j).yes_says p))),
          );
        }

-- ---- what holds of a table that a refusal does not hold of

abbrev pub EvenBytes : Table → Type 0
EvenBytes M = length M.bytes % 2 ≡ 0

abbrev pub GoodCount : Table → Type 0
GoodCount M = (0 < M.atoms) × (M.atoms ≤ max_atoms)

abbrev pub FewBonds : Table → Type 0
FewBonds M = bonds M ≤ max_bonds

abbrev pub AllInside : Table → Type 0
AllInside M = Each (bonds M) (λ k. (tail M k < M.atoms) × (head M k < M.atoms))

abbrev pub NoneSelf : Table → Type 0
NoneSelf M = Each (bonds M) (λ k. tail M k ≢ head M k)

abbrev pub NoneTwice : Table → Type 0
NoneTwice M = Each (bonds M) (λ k. Each k (λ j. Alike M k j → ⊥))

abbrev pub NoneTangled : Table → Type 0
NoneTangled M = Each (assembly_count (basis_rings M)) (λ a. length (rings_in (basis_rings M) a) ≤ max_assembly)

-- ---- the tests say so

-- bonds k and j have the same two atoms
pub tells_alike : (M : Table) (k j : ℕ) → Tells (alike? M k j) (Alike M k j) (Alike M k j → ⊥)
tells_alike M k j = tells_not (tells_or (tells_and (tells_eqb _ _) (tells_eqb _ _)) (tells_and (tells_eqb _ _) (tells_eqb _ _)))

tells_odd : (n : ℕ) → Tells (eqb (n % 2) 1) (n % 2 ≡ 1) (n % 2 ≡ 0)
tells_odd n = tells_as (tells_eqb _ _) (λ e. e) (λ h. omega arith) (λ p q. omega arith)

tells_count : (n m : ℕ) → Tells (eqb n 0 || ltb m n) ((n ≡ 0) ⊎ (m < n)) ((0 < n) × (n ≤ m))
tells_count n m = tells_as (tells_or (tells_eqb _ _) (tells_ltb _ _)) (λ e. e) (λ h. omega arith) (λ e h. ⊎_elim (λ z. omega arith) (λ l. omega arith) e)

-- some assembly has more basis rings than are allowed, or none has
pub tells_tangled : (M : Table) → Tells (tangled? M) (Tangled M) (NoneTangled M)
unfolding tangled?
tells_tangled M = tells_some (λ a. tells_ltb _ _) _

-- what holds where the tests fail, in their order
abbrev pub rights : Table → List (Type 0)
rights M = EvenBytes M ∷ GoodCount M ∷ FewBonds M ∷ AllInside M ∷ NoneSelf M ∷ NoneTwice M ∷ []

tells : (M : Table) → Tell (table_tests M) (wrongs M) (rights M)
unfolding seen_before?
tells M =
    more (tells_odd _)
    (more (tells_count _ _)
    (more (tells_ltb _ _)
    (more (tells_some (λ k. tells_or (tells_leb _ _) (tells_leb _ _)) _)
    (more (tells_some (λ k. tells_eqb _ _) _)
    (more (tells_some (λ k. tells_some (tells_alike M k) k) _)
    none)))))

numbered : (M : Table) → distinct? (numbers (table_tests M)) ≡ true
unfolding distinct? absent?
numbered M = refl

-- ---- each number exactly when

-- the number of the test at i is given exactly where its sentence holds and no sentence before it
pub refused_exactly : (M : Table) (i : ℕ) → i < length (table_tests M) → (refusal M ≡ (test_at (table_tests M) i).0) ↔ (Upto i (rights M) × (placed (wrongs M) i).1)
unfolding refusal
refused_exactly M i l = first_reads (tells M) (numbered M) i l

-- the first i tests of a table fail exactly where what is right of them holds
pub tried_exactly : (M : Table) (i : ℕ) → Each i (λ j. (test_at (table_tests M) j).1 ≡ false) ↔ Upto i (rights M)
tried_exactly M i = fail_reads (tells M) i

-- 1 exactly when the number of bond bytes is odd
pub refused_odd : (M : Table) → (refusal M ≡ ODD) ↔ OddBytes M
refused_odd M = (λ e. ((refused_exactly M 0 (lit< tt)).0 e).1, λ h. (refused_exactly M 0 (lit< tt)).1 (tt, h))

-- 2 exactly when not that, and the atom count is 0 or too high
pub refused-atoms : (M : Table) → (refusal M ≡ ATOMS) ↔ (EvenBytes M × BadCount M)
refused-atoms M = (
  λ e. let r = (refused_exactly M 1 (lit< tt)).0 e in (r.0.0, r.1),
  λ h. (refused_exactly M 1 (lit< tt)).1 ((h.0, tt), h.1),
)

-- 3 exactly when none of those, and there are too many bonds
pub refused-bonds : (M : Table) → (refusal M ≡ BONDS) ↔ (EvenBytes M × GoodCount M × ManyBonds M)
refused-bonds M = (
  λ e. let r = (refused_exactly M 2 (lit< tt)).0 e in (r.0.0, r.0.1.0, r.1),
  λ h. (refused_exactly M 2 (lit< tt)).1 ((h.0, (h.1, tt)), h.2),
)

-- what an accepted table has
pub record Valid (M : Table) : Type 0 where
  pub even : EvenBytes M
  pub some-atoms : 0 < M.atoms
  pub few-atoms : M.atoms ≤ max_atoms
  pub few-bonds : FewBonds M
  pub inside : AllInside M
  pub no_self : NoneSelf M
  pub no_twice : NoneTwice M

-- and 0 is given exactly where it has it
pub accepted : (M : Table) → (refusal M ≡ 0) ↔ Valid M
unfolding refusal
accepted M = (
  λ e. let h = (none_reads (tells M) (numbered M)).0 e in record {
    even = h.0;
    some-atoms = h.1.0.0;
    few-atoms = h.1.0.1;
    few-bonds = h.1.1.0;
    inside = h.1.1.1.0;
    no_self = h.1.1.1.1.0;
    no_twice = h.1.1.1.1.1.0;
  },
  λ v. (none_reads (tells M) (numbered M)).1 (v.even, ((v.some-atoms, v.few-atoms), (v.few-bonds, (v.inside, (v.no_self, (v.no_twice, tt)))))),
)

-- ---- with 7

-- the tests of one list, and then those of another
first-append : (ts us : List (ℕ × Bool)) → first_of ts ≢ 0 → first_of (ts ++ us) ≡ first_of ts
unfolding first_of
first-append [] us h = absurd (h refl)
first-append (t ∷ ts) us h = by t.1 (λ p. rw p) (λ p. rw p (first-append ts us (rw p at h)))

append-first : (ts us : List (ℕ × Bool)) → distinct? (numbers ts) ≡ true → first_of ts ≡ 0 → first_of (ts ++ us) ≡ first_of us
unfolding first_of distinct?
append-first [] us d e = refl
append-first (t ∷ ts) us d e =
    let h = and_both (not (eqb t.0 0)) (absent? t.0 (numbers ts) && distinct? (numbers ts)) d in
    by t.1
    (λ p. absurd (eqb-false t.0 0 (not-true _ h.0) (rw p at e)))
    (λ p. rw p (append-first ts us (and_both (absent? t.0 (numbers ts)) (distinct? (numbers ts)) h.1).1 (rw p at e)))

module _ (ts us : List (ℕ × Bool)) (d : distinct? (numbers ts) ≡ true) where
  -- by cases: a test of the first list passes, or none does
  either : {A : Type 0} → (first_of ts ≡ 0 → first_of (ts ++ us) ≡ first_of us → A) → (first_of ts ≢ 0 → first_of (ts ++ us) ≡ first_of ts → A) → A
  either f g =
      by (eqb (first_of ts) 0)
      (λ t. let z = eqb-true (first_of ts) 0 t in f z (append-first ts us d z))
      (λ t. let n = eqb-false (first_of ts) 0 t in g n (first-append ts us n))

  -- 0 is given exactly where both lists give it
  both_none : (first_of (ts ++ us) ≡ 0) ↔ ((first_of ts ≡ 0) × (first_of us ≡ 0))
  both_none = (
    λ e. either (λ z q. (z, sym q ∙ e)) (λ n q. absurd (n (sym q ∙ e))),
    λ h. append-first ts us d h.0 ∙ h.1,
  )

module _ (n : ℕ) (Some-number : n ≢ 0) (b : Bool) where
  -- one test alone gives 0 exactly where it fails
  alone_none : (first_of ((n, b) ∷ []) ≡ 0) ↔ (b ≡ false)
  unfolding first_of
  alone_none = (λ e. not_passed b (λ p. Some-number (rw p at e)), λ p. rw p)

-- the test that is tried after those of the table
abbrev tangling : Table → List (ℕ × Bool)
tangling M = (TANGLED, tangled? M) ∷ []

-- a table that is refused is so with the same number
pub rings-kept : (M : Table) → refusal M ≢ 0 → refusal_of_rings M ≡ refusal M
unfolding refusal refusal_of_rings
rings-kept M h = first-append (table_tests M) (tangling M) h

-- of an accepted one only the assemblies are asked
pub rings-free : (M : Table) → refusal M ≡ 0 → refusal_of_rings M ≡ cond (tangled? M) TANGLED 0
unfolding refusal refusal_of_rings first_of
rings-free M e = append-first (table_tests M) (tangling M) (numbered M) e

-- refusalOfRings gives 0 exactly where the table is accepted and no assembly is too large
pub rings-accepted : (M : Table) → (refusal_of_rings M ≡ 0) ↔ ((refusal M ≡ 0) × (tangled? M ≡ false))
unfolding refusal refusal_of_rings
rings-accepted M =
    let b = both_none (table_tests M) (tangling M) (numbered M) in
    let a = alone_none TANGLED (λ e. omega arith) (tangled? M) in
    (λ e. ((b.0 e).0, a.0 (b.0 e).1), λ h. b.1 (h.0, a.1 h.1))

-- ---- with 9

-- the test that is tried after those of the table
abbrev ringing : Table → ℕ → List (ℕ × Bool)
ringing M s = (NOTRING, not (ring? M s)) ∷ []

-- a table that is refused is so with the same number
pub walk_kept : (M : Table) (s : ℕ) → refusal M ≢ 0 → refusal_of_walk M s ≡ refusal M
unfolding refusal refusal_of_walk
walk_kept M s h = first-append (table_tests M) (ringing M s) h

-- of an accepted one only the set is asked
pub walk-free : (M : Table) (s : ℕ) → refusal M ≡ 0 → refusal_of_walk M s ≡ cond (ring? M s) 0 NOTRING
unfolding refusal refusal_of_walk first_of
walk-free M s e = append-first (table_tests M) (ringing M s) (numbered M) e ∙ turned (ring? M s)
  where
    turned : (b : Bool) → cond (not b) NOTRING 0 ≡ cond b 0 NOTRING
    turned true = refl
    turned false = refl

-- refusalOfWalk gives 0 exactly where the table is accepted and the set is a ring
pub walk-accepted : (M : Table) (s : ℕ) → (refusal_of_walk M s ≡ 0) ↔ ((refusal M ≡ 0) × Ring M s)
unfolding refusal refusal_of_walk
walk-accepted M s =
    let b = both_none (table_tests M) (ringing M s) (numbered M) in
    let a = alone_none NOTRING (λ e. omega arith) (not (ring? M s)) in
    (λ e. ((b.0 e).0, (ring_test M s).0 (not-false _ (a.0 (b.0 e).1))), λ h. b.1 (h.0, a.1 (rw ((ring_test M s).1 h.1))))

-- and 9 exactly where the table is accepted and the set is none
pub walk_refused : (M : Table) (s : ℕ) → (refusal_of_walk M s ≡ NOTRING) ↔ ((refusal M ≡ 0) × NoRing M s)
unfolding refusal distinct? absent?
walk_refused M s = (
  λ e. by (eqb (refusal M) 0)
      (λ t. let z = eqb-true (refusal M) 0 t in (z, λ r. absurd (omega (arith, e, (walk-accepted M s).1 (z, r)))))
      (λ t. let n = eqb-false (refusal M) 0 t in absurd (first-other NOTRING (table_tests M) (λ q. omega arith) refl (sym (walk_kept M s n) ∙ e))),
  λ h. walk-free M s h.0 ∙ rw (not_passed (ring? M s) (λ t. h.1 ((ring_test M s).0 t))),
)

-- ---- each number as it is told

-- sentences tell one number only
pub told_once : {wrong : List (ℕ × Type 0)} {a b : ℕ} → Told wrong a → Told wrong b → a ≡ b
told_once {wrong} {a} {b} s t =
    by (eqb a b)
    (eqb-true a b)
    (λ e. let h = nothing (eqb-false a b e) (length wrong) (omega arith) in s.none.1 h ∙ sym (t.none.1 h))
  where
    -- were there two, no sentence would hold
    nothing : a ≢ b → (n : ℕ) → n ≤ length wrong → Each n (λ j. (placed wrong j).1 → ⊥)
    nothing ne zero l = λ k m. absurd (not-suc-le-zero m)
    nothing ne (suc n) l =
        let before = nothing ne n (omega arith) in
        each_more n before (λ p. ne ((s.first n (omega arith)).1 (p, before) ∙ sym ((t.first n (omega arith)).1 (p, before))))

-- the table check's
pub table-told : (M : Table) → Told (wrongs M) (refusal M)
unfolding refusal
table-told M = told-first (tells M) (numbered M)

tells_of_rings : (M : Table) → Tell (table_tests M ++ tangling M) (wrongs_of_rings M) (rights M ++ (NoneTangled M ∷ []))
tells_of_rings M = tell_last TANGLED (tells M) (tells_tangled M)

-- and where all rings are needed
pub rings-told : (M : Table) → Told (wrongs_of_rings M) (refusal_of_rings M)
unfolding refusal_of_rings distinct? absent?
rings-told M = told-first (tells_of_rings M) refl

tells_of_walk : (M : Table) (s : ℕ) → Tell (table_tests M ++ ringing M s) (wrongs_of_walk M s) (rights M ++ (Ring M s ∷ []))
tells_of_walk M s = tell_last NOTRING (tells M) (record {
  yes_says = λ e r. clashes ((ring_test M s).1 r) (not-true _ e);
  no_says = λ e. (ring_test M s).0 (not-false _ e);
  clash = λ p q. p q;
})

-- the number of an outcome is that of the first test that passes, if the test for room comes last
module _ {A : Type 0} (room : Bool) (n : ℕ) (given lent : A) where
  number-refused : (c : ℕ) → c ≢ 0 → c ≡ (outcome c room n given lent).number
  unfolding outcome
  number-refused zero h = absurd (h refl)
  number-refused (suc c) h = refl

  number-by-room : first_of ((ROOM, not room) ∷ []) ≡ (outcome 0 room n given lent).number
  unfolding first_of outcome
  number-by-room = by room (λ p. rw p) (λ p. rw p)

  outcome-number : (ts : List (ℕ × Bool)) → distinct? (numbers ts) ≡ true
      → first_of (ts ++ ((ROOM, not room) ∷ [])) ≡ (outcome (first_of ts) room n given lent).number
  outcome-number ts d =
      either ts ((ROOM, not room) ∷ []) d
      (λ z q. q ∙ rw z number-by-room)
      (λ z q. q ∙ number-refused (first_of ts) z)

-- the test for room fails exactly where there is too little in a list
pub tells_room : (wanted lent : List ℕ) → Tells (leb (length wanted) (length lent)) (length wanted ≤ length lent) (TooShort wanted lent)
tells_room wanted lent = tells_leb (length wanted) (length lent)

-- and that for two lists where there is too little in one of them
pub tells_rooms : (wanted wanted' lent lent' : List ℕ)
    → Tells (leb (length wanted) (length lent) && leb (length wanted') (length lent')) ((length wanted ≤ length lent) × (length wanted' ≤ length lent'))
    (TooShort wanted lent ⊎ TooShort wanted' lent')
tells_rooms wanted wanted' lent lent' = tells_and (tells_room wanted lent) (tells_room wanted' lent')

-- the number of what is written, where something may be too short
module _ {A : Type 0} (room : Bool) {short fits : Type 0} (t : Tells room fits short) (n : ℕ) (given lent : A) where
  room-told : {ts : List (ℕ × Bool)} {Ps : List (ℕ × Type 0)} {Ns : List (Type 0)} → Tell ts Ps Ns → distinct? (numbers ts) ≡ true
      → distinct? (numbers (ts ++ ((ROOM, not room) ∷ []))) ≡ true → Told (or_no_room Ps short) (outcome (first_of ts) room n given lent).number
  room-told {ts} s d e = subst (Told _) (outcome-number room n given lent ts d) (told-first (tell_last ROOM s (tells_turned t)) e)

  -- where the table may be refused
  pub table-room-told : (M : Table) → Told (or_no_room (wrongs M) short) (outcome (refusal M) room n given lent).number
  unfolding refusal distinct? absent?
  table-room-told M = room-told (tells M) refl refl

  -- and where all rings are needed
  pub rings-room-told : (M : Table) → Told (or_no_room (wrongs_of_rings M) short) (outcome (refusal_of_rings M) room n given lent).number
  unfolding refusal_of_rings distinct? absent?
  rings-room-told M = room-told (tells_of_rings M) refl refl

  -- and where a set is walked round
  pub walk-room-told : (M : Table) (s : ℕ) → Told (or_no_room (wrongs_of_walk M s) short) (outcome (refusal_of_walk M s) room n given lent).number
  unfolding refusal_of_walk distinct? absent?
  walk-room-told M s = room-told (tells_of_walk M s) refl refl
