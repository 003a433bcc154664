-- Demand 1: every function of the face asks for nothing and answers every call as `Answered` says, by its own postcondition. Assumes nothing.
use mathlib.Core.Path.{◌≡◌, refl, sym, ap, ap₂, subst, ◌∙◌}
use mathlib.Core.Logic.{◌≢◌, ◌⊎◌}
use mathlib.Core.Bool.{Bool, true, false, ◌&&◌}
use mathlib.Core.List.{List, [], ◌++◌}
use Prim.Native.Nat.{ℕ, zero, suc}
use native.Mathlib.Omega.{arith}
use borrow.Author.Tests.{eqb-true, eqb-false}
use lib.Dec.{eqb, leb}
use lib.ListN.{length, take, drop, take-append-drop}
use lib.Seq.{take-append_seam, drop-append_seam}
use Rattle.sets.specs.Lists.{in_words}
use Rattle.definitions.specs.Table.{Table, refusal}
use Rattle.definitions.specs.Basis.{basis_rings}
use Rattle.definitions.specs.Assembly.{assemblies}
use Rattle.definitions.specs.AllRings.{all_rings}
use Rattle.definitions.specs.Smallest.{smallest_basis}
use Rattle.definitions.specs.Reduced.{reduced_basis}
use Rattle.definitions.specs.Walk.{walk_atoms, walk_bonds}
use Rattle.definitions.specs.Label.{label_of, sidecar_of}
use Rattle.definitions.specs.Answer.{Outcome, outcome_of, outcome, over, counted, written, written_sets, written_both, refusal_of_rings, refusal_of_walk}
use Rattle.definitions.specs.Sentences.{TooShort, wrongs, wrongs_of_rings, wrongs_of_walk, or_no_room, Told}
use Rattle.walking.proofs.Steps.{atoms-length}
use Rattle.definitions.proofs.Tests.{by}
use Rattle.definitions.proofs.Refusals.{told_once, table-told, tells_room, tells_rooms, table-room-told, rings-room-told, walk-room-told}
use Rattle.foliocrane.specs.Call.{Call, Checked, Checked.checked, Called, Called.called, CalledBoth, CalledBoth.called_both, table_in, answer_of}
use Rattle.foliocrane.specs.Answered.{Answered, AnsweredBytes, AnsweredSets, AnsweredWalk, AsksNothing}
use Rattle.foliocrane.proofs.foliocrane_check.Reads as check
use Rattle.foliocrane.proofs.foliocrane_basis_rings.Reads as basis
use Rattle.foliocrane.proofs.foliocrane_assemblies.Reads as assembly
use Rattle.foliocrane.proofs.foliocrane_all_rings.Reads as rings
use Rattle.foliocrane.proofs.foliocrane_smallest_basis.Reads as smallest
use Rattle.foliocrane.proofs.foliocrane_reduced_basis.Reads as reduced
use Rattle.foliocrane.proofs.foliocrane_ring_walk.Reads as walk
use Rattle.foliocrane.proofs.foliocrane_label.Reads as label
use Rattle.foliocrane.proofs.foliocrane_sidecar.Reads as sidecar
use Rattle.foliocrane.proofs.of_size.Reads as lookup

-- ---- an outcome by its number

module _ {A : Type 0} (n : ℕ) (new lent : A) where
  -- a refusal has count 0 and leaves what was lent
  outcome-kept : (c : ℕ) (room : Bool) → let o = outcome c room n new lent in o.number ≢ 0 → (o.count ≡ 0) × (o.left ≡ lent)
  unfolding outcome
  outcome-kept zero true h = absurd (h refl)
  outcome-kept zero false h = (refl, refl)
  outcome-kept (suc c) room h = (refl, refl)

  -- with 0 what is wanted is counted and left
  outcome_new : (c : ℕ) (room : Bool) → let o = outcome c room n new lent in o.number ≡ 0 → (o.count ≡ n) × (o.left ≡ new)
  unfolding outcome
  outcome_new zero true e = (refl, refl)
  outcome_new zero false e = absurd (omega arith)
  outcome_new (suc c) room e = absurd (omega arith)

  -- and there was no refusal
  pub outcome-free : (c : ℕ) (room : Bool) → (outcome c room n new lent).number ≡ 0 → c ≡ 0
  unfolding outcome
  outcome-free zero room e = refl
  outcome-free (suc c) room e = absurd (omega arith)

  -- where there is always room the number is the table's
  pub outcome_roomy : (c : ℕ) → c ≡ (outcome c true n new lent).number
  unfolding outcome
  outcome_roomy zero = refl
  outcome_roomy (suc c) = refl

-- an outcome by a part of what it leaves
outcome-part : {A B : Type 0} (part : A → B) (c : ℕ) (room : Bool) (n : ℕ) (new lent : A) → let o = outcome c room n new lent in
    outcome_of o.number o.count (part o.left) ≡ outcome c room n (part new) (part lent)
unfolding outcome
outcome-part part zero true n new lent = refl
outcome-part part zero false n new lent = refl
outcome-part part (suc c) room n new lent = refl

-- a call ends with this outcome, and its bonds are as they were
abbrev pub EndsWith : Call → Outcome (List ℕ) → Type 0
EndsWith c o = (answer_of c ≡ o) × (c.bonds-after ≡ c.bonds)

-- a call that ends with an outcome, the number of which is told, is answered
answered : (wrong : List (ℕ × Type 0)) (n : ℕ) (wanted : List ℕ) (c : Call) (r : ℕ) (room : Bool)
    → let o = outcome r room n (over wanted c.lent) c.lent in EndsWith c o → Told wrong o.number → Answered wrong n wanted c
unfolding over
answered wrong n wanted c r room (e, read) t =
    record {
      told = subst (Told wrong) (sym number) t;
      refused = λ h. let k = outcome-kept n _ c.lent r room (λ z. h (number ∙ z)) in (count ∙ k.0, left ∙ k.1);
      given = λ z. let k = outcome_new n _ c.lent r room (sym number ∙ z) in (
        count ∙ k.0,
        ap (take (length wanted)) (left ∙ k.1) ∙ take-append_seam wanted (drop (length wanted) c.lent),
        ap (drop (length wanted)) (left ∙ k.1) ∙ drop-append_seam wanted (drop (length wanted) c.lent),
      );
      unaltered = read;
    }
  where
    number : c.number ≡ (outcome r room n (over wanted c.lent) c.lent).number
    number = ap (λ (o : Outcome (List ℕ)). o.number) e

    count : c.count ≡ (outcome r room n (over wanted c.lent) c.lent).count
    count = ap (λ (o : Outcome (List ℕ)). o.count) e

    left : c.left ≡ (outcome r room n (over wanted c.lent) c.lent).left
    left = ap (λ (o : Outcome (List ℕ)). o.left) e

-- there is one answer only: two calls that are answered alike, with the same list lent, end with the same number, count and list
pub answered_once : {wrong : List (ℕ × Type 0)} {n : ℕ} {wanted : List ℕ} {c d : Call}
    → Answered wrong n wanted c → Answered wrong n wanted d → c.lent ≡ d.lent → answer_of c ≡ answer_of d
answered_once {wanted = wanted} {c = c} {d = d} a b e =
    by (eqb c.number 0)
    (λ t. let z = eqb-true c.number 0 t in let g = a.given z in let h = b.given (sym same ∙ z) in
    parts (g.0 ∙ sym h.0) (joined (g.1 ∙ sym h.1) (g.2 ∙ ap (drop (length wanted)) e ∙ sym h.2)))
    (λ t. let z = eqb-false c.number 0 t in let g = a.refused z in let h = b.refused (λ y. z (same ∙ y)) in
    parts (g.0 ∙ sym h.0) (g.1 ∙ e ∙ sym h.1))
  where
    same : c.number ≡ d.number
    same = told_once a.told b.told

    joined : take (length wanted) c.left ≡ take (length wanted) d.left → drop (length wanted) c.left ≡ drop (length wanted) d.left
        → c.left ≡ d.left
    joined p q = sym (take-append-drop (length wanted) c.left) ∙ ap₂ ◌++◌ p q ∙ take-append-drop (length wanted) d.left

    parts : c.count ≡ d.count → c.left ≡ d.left → answer_of c ≡ answer_of d
    parts p q = λ i. record { number = same i; count = p i; left = q i }

-- what is written of a table, as bytes or as sets, is answered: by the table's sentences, and by these and 7 where all rings are needed
module _ (c : Call) where
  abbrev M : Table
  M = table_in c

  pub bytes_answered : (bytes : Table → List ℕ) → EndsWith c (written (refusal M) (bytes M) c.lent) → AnsweredBytes wrongs bytes c
  unfolding written
  bytes_answered bytes h = answered _ _ (bytes M) c _ _ h (table-room-told _ (tells_room (bytes M) c.lent) _ _ _ M)

  pub bytes_of-rings_answered : (bytes : Table → List ℕ) → EndsWith c (written (refusal_of_rings M) (bytes M) c.lent)
      → AnsweredBytes wrongs_of_rings bytes c
  unfolding written
  bytes_of-rings_answered bytes h = answered _ _ (bytes M) c _ _ h (rings-room-told _ (tells_room (bytes M) c.lent) _ _ _ M)

  pub sets_answered : (sets : Table → List ℕ) → EndsWith c (written_sets (refusal M) (sets M) c.lent) → AnsweredSets wrongs sets c
  unfolding written_sets
  sets_answered sets h = answered _ _ (in_words (sets M)) c _ _ h (table-room-told _ (tells_room (in_words (sets M)) c.lent) _ _ _ M)

  pub sets_of_rings_answered : (sets : Table → List ℕ) → EndsWith c (written_sets (refusal_of_rings M) (sets M) c.lent)
      → AnsweredSets wrongs_of_rings sets c
  unfolding written_sets
  sets_of_rings_answered sets h = answered _ _ (in_words (sets M)) c _ _ h (rings-room-told _ (tells_room (in_words (sets M)) c.lent) _ _ _ M)

-- two calls that end as one does which writes the atoms and the bonds of a ring are answered
module _ (s : ℕ) (c d : Call) where
  abbrev visited : List ℕ
  visited = walk_atoms (table_in c) s

  abbrev crossed : List ℕ
  crossed = walk_bonds (table_in c) s

  abbrev both : Outcome (List ℕ × List ℕ)
  both = written_both (refusal_of_walk (table_in c) s) (visited, crossed) (c.lent, d.lent)

  walk_answered : EndsWith c (outcome_of both.number both.count both.left.0) → EndsWith d (outcome_of both.number both.count both.left.1)
      → AnsweredWalk s c d
  unfolding written_both
  walk_answered (e, read) (f, read') = rw (← atoms-length (table_in c) s) (
    answered _ _ visited c _ room (e ∙ outcome-part (λ p. p.0) _ room _ _ _, read) (told _ _),
    answered _ _ crossed d _ room (f ∙ outcome-part (λ p. p.1) _ room _ _ _, read') (told _ _),
  )
    where
      room : Bool
      room = leb (length visited) (length c.lent) && leb (length crossed) (length d.lent)

      told : (given lent : List ℕ) → Told (or_no_room (wrongs_of_walk (table_in c) s) (TooShort visited c.lent ⊎ TooShort crossed d.lent))
          (outcome (refusal_of_walk (table_in c) s) room (length visited) given lent).number
      told given lent = walk-room-told room (tells_rooms visited crossed c.lent d.lent) (length visited) given lent (table_in c) s

-- ---- the functions of the face, each by its own postcondition

-- the table check: nothing is lent, so 8 is never given
pub check_answers : (c : Call) → Checked check.Post c → Answered (wrongs (table_in c)) (length (basis_rings (table_in c))) [] c
unfolding counted over
check_answers c (checked h) =
    let M = table_in c in
    answered _ _ [] c (refusal M) true h (subst (Told (wrongs M)) (outcome_roomy _ _ _ (refusal M)) (table-told M))

pub basis-rings_answers : (c : Call) → Called basis.Post c → AnsweredSets wrongs basis_rings c
basis-rings_answers c (called h) = sets_answered c basis_rings h

pub assemblies_answers : (c : Call) → Called assembly.Post c → AnsweredBytes wrongs assemblies c
assemblies_answers c (called h) = bytes_answered c assemblies h

pub all_rings_answers : (c : Call) → Called rings.Post c → AnsweredSets wrongs_of_rings all_rings c
all_rings_answers c (called h) = sets_of_rings_answered c all_rings h

pub smallest_basis_answers : (c : Call) → Called smallest.Post c → AnsweredSets wrongs_of_rings smallest_basis c
smallest_basis_answers c (called h) = sets_of_rings_answered c smallest_basis h

pub reduced-basis_answers : (c : Call) → Called reduced.Post c → AnsweredSets wrongs reduced_basis c
reduced-basis_answers c (called h) = sets_answered c reduced_basis h

-- the walk round a ring, for the atoms and for the bonds
pub ring-walk_answers : (s : ℕ) (c d : Call) → CalledBoth walk.Post s c d → AnsweredWalk s c d
ring-walk_answers s c d (called_both (e, read)) =
    walk_answered s c d
    (ap (λ (o : Outcome (List ℕ × List ℕ)). outcome_of o.number o.count o.left.0) e, read)
    (ap (λ (o : Outcome (List ℕ × List ℕ)). outcome_of o.number o.count o.left.1) e, read)

pub label_answers : (c : Call) → Called label.Post c → AnsweredBytes wrongs_of_rings label_of c
label_answers c (called h) = bytes_of-rings_answered c label_of h

pub sidecar_answers : (c : Call) → Called sidecar.Post c → AnsweredBytes wrongs sidecar_of c
sidecar_answers c (called h) = bytes_answered c sidecar_of h

-- and none of them asks for anything
pub nothing_is_asked :
    AsksNothing check.Asked
    × AsksNothing basis.Asked
    × AsksNothing assembly.Asked
    × AsksNothing rings.Asked
    × AsksNothing smallest.Asked
    × AsksNothing reduced.Asked
    × AsksNothing walk.Asked
    × AsksNothing label.Asked
    × AsksNothing sidecar.Asked
    × AsksNothing lookup.Asked
nothing_is_asked = (λ κs a. tt, λ κs a. tt, λ κs a. tt, λ κs a. tt, λ κs a. tt, λ κs a. tt, λ κs a. tt, λ κs a. tt, λ κs a. tt, λ κs a. tt)
