-- Demand 2 over calls: what a call has given, if it was not refused, is exactly what the definitions say, by the postcondition of the
-- function that was called; and what the size lookup hands back. Assumes nothing.
use mathlib.Core.Path.{◌≡◌, refl, sym, ap, subst, ◌∙◌}
use mathlib.Core.List.{List}
use Prim.Native.Nat.{ℕ}
use base.Fml.{Lft}
use denote.Ref.{Bor}
use lib.ListN.{length, take}
use Rattle.sets.specs.Lists.{sets_in, words_of, in_words}
use Rattle.definitions.specs.Table.{refusal}
use Rattle.definitions.specs.Basis.{basis_rings}
use Rattle.definitions.specs.Assembly.{assemblies}
use Rattle.definitions.specs.AllRings.{all_rings}
use Rattle.definitions.specs.Smallest.{smallest_basis}
use Rattle.definitions.specs.Reduced.{reduced_basis}
use Rattle.definitions.specs.Answer.{Outcome, written, written_sets}
use Rattle.definitions.proofs.Refusals.{rings-accepted}
use Rattle.foliocrane.specs.Call.{Call, Called, Called.called, table_in, bytes_given, sets_given}
use Rattle.foliocrane.specs.Answered.{Answered}
use Rattle.foliocrane.specs.Exactly.{Exactly, Whole}
use Rattle.foliocrane.proofs.Answered.{EndsWith, outcome-free, bytes_answered, sets_answered, sets_of_rings_answered}
use Rattle.foliocrane.proofs.Exactly.{answers_are_exact, answers_are_whole}
use Rattle.lookup.specs.Lookup.{lent, of_size}
use Rattle.foliocrane.proofs.of_size.Reads as lookup
use Rattle.foliocrane.proofs.foliocrane_basis_rings.Reads as basis
use Rattle.foliocrane.proofs.foliocrane_assemblies.Reads as assembly
use Rattle.foliocrane.proofs.foliocrane_all_rings.Reads as rings
use Rattle.foliocrane.proofs.foliocrane_smallest_basis.Reads as smallest
use Rattle.foliocrane.proofs.foliocrane_reduced_basis.Reads as reduced

module _ (c : Call) (accepted : c.number ≡ 0) where
  -- nothing was wrong
  pub bytes-free : (r : ℕ) (bytes : List ℕ) → EndsWith c (written r bytes c.lent) → r ≡ 0
  unfolding written
  bytes-free r bytes h = outcome-free _ _ _ r _ (sym (ap (λ (o : Outcome (List ℕ)). o.number) h.0) ∙ accepted)

  sets-free : (r : ℕ) (sets : List ℕ) → EndsWith c (written_sets r sets c.lent) → r ≡ 0
  unfolding written_sets
  sets-free r sets h = outcome-free _ _ _ r _ (sym (ap (λ (o : Outcome (List ℕ)). o.number) h.0) ∙ accepted)

  -- the bytes that are wanted are given, if they are counted
  pub bytes-given : {wrong : List (ℕ × Type 0)} {n : ℕ} (bytes : List ℕ) → n ≡ length bytes → Answered wrong n bytes c → bytes_given c ≡ bytes
  bytes-given bytes e a = ap (λ (n : ℕ). take n c.left) ((a.given accepted).0 ∙ e) ∙ (a.given accepted).1

  -- and the sets, if they are written whole
  sets-given : {wrong : List (ℕ × Type 0)} (sets : List ℕ) → Answered wrong (length sets) (in_words sets) c → Whole sets → sets_given c ≡ sets
  sets-given sets a w =
      ap sets_in (ap (λ (n : ℕ). take n c.left) (ap words_of (a.given accepted).0 ∙ sym w.counted) ∙ (a.given accepted).1) ∙ w.read_back

-- ---- the functions of the face, each by its own postcondition

pub basis-rings_exact : (c : Call) → Called basis.Post c → c.number ≡ 0
    → let M = table_in c in Exactly M (sets_given c) (assemblies M) (all_rings M) (smallest_basis M)
basis-rings_exact c (called h) z =
    let M = table_in c in
    let e = sets-free c z (refusal M) (basis_rings M) h in
    subst (λ (l : List ℕ). Exactly M l (assemblies M) (all_rings M) (smallest_basis M))
    (sym (sets-given c z (basis_rings M) (sets_answered c basis_rings h) (answers_are_whole M e).0))
    (answers_are_exact M e)

pub assemblies_exact : (c : Call) → Called assembly.Post c → c.number ≡ 0
    → let M = table_in c in Exactly M (basis_rings M) (bytes_given c) (all_rings M) (smallest_basis M)
assemblies_exact c (called h) z =
    let M = table_in c in
    subst (λ (l : List ℕ). Exactly M (basis_rings M) l (all_rings M) (smallest_basis M))
    (sym (bytes-given c z (assemblies M) refl (bytes_answered c assemblies h)))
    (answers_are_exact M (bytes-free c z (refusal M) (assemblies M) h))

pub all_rings_exact : (c : Call) → Called rings.Post c → c.number ≡ 0
    → let M = table_in c in Exactly M (basis_rings M) (assemblies M) (sets_given c) (smallest_basis M)
all_rings_exact c (called h) z =
    let M = table_in c in
    let e = ((rings-accepted M).0 (sets-free c z _ (all_rings M) h)).0 in
    subst (λ (l : List ℕ). Exactly M (basis_rings M) (assemblies M) l (smallest_basis M))
    (sym (sets-given c z (all_rings M) (sets_of_rings_answered c all_rings h) (answers_are_whole M e).1))
    (answers_are_exact M e)

pub smallest_basis_exact : (c : Call) → Called smallest.Post c → c.number ≡ 0
    → let M = table_in c in Exactly M (basis_rings M) (assemblies M) (all_rings M) (sets_given c)
smallest_basis_exact c (called h) z =
    let M = table_in c in
    let e = ((rings-accepted M).0 (sets-free c z _ (smallest_basis M) h)).0 in
    subst (λ (l : List ℕ). Exactly M (basis_rings M) (assemblies M) (all_rings M) l)
    (sym (sets-given c z (smallest_basis M) (sets_of_rings_answered c smallest_basis h) (answers_are_whole M e).2))
    (answers_are_exact M e)

-- and the sets of the reduced basis are given whole
pub reduced-basis-whole : (c : Call) → Called reduced.Post c → c.number ≡ 0 → sets_given c ≡ reduced_basis (table_in c)
reduced-basis-whole c (called h) z =
    let M = table_in c in
    sets-given c z (reduced_basis M) (sets_answered c reduced_basis h) (answers_are_whole M (sets-free c z _ (reduced_basis M) h)).3

-- the size lookup hands back the part that the definitions say, and both lists are as they were
pub lookup_hands_back : (κs : Lft × Unit {0}) (first second first' second' part : Bor (List ℕ)) (size size' : ℕ)
    → lookup.Post κs (first, (second, (size, tt))) part (first', (second', (size', tt)))
    → (lent part ≡ of_size size (lent first) (lent second)) × (first'.now ≡ first.now) × (second'.now ≡ second.now)
lookup_hands_back κs first second first' second' part size size' (is, read) = (is, read.0, read.1)
