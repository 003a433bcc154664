-- The label's answers for renumbered tables agree: each of its four fields is made of what renumbering keeps, and so is each refusal. The
-- length of the lent list decides whether there is room. Assumes nothing.
use mathlib.Core.Path.{◌≡◌, refl, sym, ap, ap₂, subst, ◌∙◌}
use mathlib.Core.Logic.{◌≢◌}
use mathlib.Core.Bool.{Bool, true, false, cond}
use mathlib.Core.List.{List, [], ◌∷◌, ◌++◌, map}
use Prim.Native.Nat.{ℕ, zero, suc, ◌+◌}
use lib.ListN.{length}
use lib.Seq.{take-append_seam}
use lib.Dec.{eqb, leb}
use borrow.Author.Tests.{eqb-true, eqb-false}
use Rattle.sets.specs.Bits.{size}
use Rattle.definitions.specs.Table.{Table, max_bonds, refusal, TANGLED, ROOM}
use Rattle.definitions.specs.Label.{bytes_of, bytes_of_all, field, occurs, histogram, frerejacque_tag, rings_tag, smallest_tag, assemblies_tag, label_of}
use Rattle.definitions.specs.Answer.{Outcome, over, outcome, written, refusal_of_rings}
use Rattle.definitions.proofs.Tests.{by}
use Rattle.definitions.proofs.Lists.{gather_ext}
use Rattle.definitions.proofs.Refusals.{Valid, accepted, rings-kept, rings-free, rings-accepted}
use Rattle.renumbering.specs.Renumbered.{Renumbered, InRange, Agree}
use Rattle.renumbering.proofs.Refusals.{refusals_of_renumbered}
use Rattle.renumbering.proofs.Rings.{rings_of_renumbered, sizes_of_renumbered}
use Rattle.renumbering.proofs.Assemblies.{pairs_of_renumbered, tangled_of_renumbered}
use Rattle.renumbering.proofs.Fragments.{frerejacque_of_renumbered}

-- lists with as many sets of each size have one histogram
pub histogram-same : (n : ℕ) (l m : List ℕ) → ((z : ℕ) → occurs z (map size l) ≡ occurs z (map size m)) → histogram n l ≡ histogram n m
unfolding histogram
histogram-same n l m h =
    gather_ext (max_bonds + 1) _ _ (λ z i. ap (λ (k : ℕ). elim (eqb k 0) [ true ↦ [] | false ↦ z ∷ bytes_of n k ]) (h z))

module _ {M N : Table} (r : Renumbered M N) (inside : InRange M) where
  -- the labels of accepted tables agree in every byte
  pub label_same : Valid M → label_of M ≡ label_of N
  unfolding label_of
  label_same v =
      ap₂ ◌++◌ (ap (λ (n : ℕ). field frerejacque_tag (n ∷ [])) (frerejacque_of_renumbered r v))
      (ap₂ ◌++◌ (ap (field rings_tag) (histogram-same 2 _ _ (rings_of_renumbered r inside)))
      (ap₂ ◌++◌ (ap (field smallest_tag) (histogram-same 1 _ _ (sizes_of_renumbered r inside)))
      (ap (λ l. field assemblies_tag (bytes_of_all 2 l)) (pairs_of_renumbered r v))))

  -- the refusals agree, 7 too
  pub rings-refusal_of_renumbered : refusal_of_rings M ≡ refusal_of_rings N
  rings-refusal_of_renumbered =
      let e = refusals_of_renumbered r inside in
      by (eqb (refusal M) 0)
      (λ t. let z = eqb-true (refusal M) 0 t in
      rings-free M z ∙ ap (λ (b : Bool). cond b TANGLED 0) (tangled_of_renumbered r ((accepted M).0 z)) ∙ sym (rings-free N (sym e ∙ z)))
      (λ t. let n = eqb-false (refusal M) 0 t in
      rings-kept M n ∙ e ∙ sym (rings-kept N (λ z. n (e ∙ z))))

-- ---- answers

-- the same refusal, and the same items where there is none, give the same answer
outcome-same : (c : ℕ) (x y lent : List ℕ) → (c ≡ 0 → x ≡ y) → written c x lent ≡ written c y lent
unfolding written outcome
outcome-same zero x y lent h = ap (λ l. written 0 l lent) (h refl)
outcome-same (suc c) x y lent h = refl

-- answers written to lists of equal length agree
outcome_agrees : (c : ℕ) (wanted lent lent' : List ℕ) → length lent ≡ length lent' → Agree (written c wanted lent) (written c wanted lent')
unfolding written outcome over
outcome_agrees zero wanted lent lent' e =
    by (leb (length wanted) (length lent))
    (λ t. rw (t, ap (leb (length wanted)) (sym e) ∙ t)
    (record { number = refl; count = refl; written = take-append_seam wanted _ ∙ sym (take-append_seam wanted _) }))
    (λ t. rw (t, ap (leb (length wanted)) (sym e) ∙ t) (record { number = refl; count = refl; written = refl }))
outcome_agrees (suc c) wanted lent lent' e = record { number = refl; count = refl; written = refl }

-- and so do answers written to lists that are long enough
outcome_fits : (c : ℕ) (wanted lent lent' : List ℕ) → (written c wanted lent).number ≢ ROOM → (written c wanted lent').number ≢ ROOM
    → Agree (written c wanted lent) (written c wanted lent')
unfolding written outcome over
outcome_fits zero wanted lent lent' h g =
    by (leb (length wanted) (length lent))
    (λ t. by (leb (length wanted) (length lent'))
    (λ u. rw (t, u) (record { number = refl; count = refl; written = take-append_seam wanted _ ∙ sym (take-append_seam wanted _) }))
    (λ u. absurd (g (rw u))))
    (λ t. absurd (h (rw t)))
outcome_fits (suc c) wanted lent lent' h g = record { number = refl; count = refl; written = refl }

module _ {M N : Table} (r : Renumbered M N) (inside : InRange M) where
  -- with the same lent list, renumbered tables get the same answer
  pub label_answer_same : (lent : List ℕ) → written (refusal_of_rings M) (label_of M) lent ≡ written (refusal_of_rings N) (label_of N) lent
  label_answer_same lent =
      outcome-same (refusal_of_rings M) (label_of M) (label_of N) lent (λ z. label_same r inside ((accepted M).0 ((rings-accepted M).0 z).0))
      ∙ ap (λ (c : ℕ). written c (label_of N) lent) (rings-refusal_of_renumbered r inside)

  -- with lent lists of equal length: the bytes agree, and so does a refusal
  pub label_of_renumbered : (lent lent' : List ℕ) → length lent ≡ length lent' → Agree (written (refusal_of_rings M) (label_of M) lent) (written (refusal_of_rings N) (label_of N) lent')
  label_of_renumbered lent lent' e =
      subst (λ x. Agree x (written (refusal_of_rings N) (label_of N) lent')) (sym (label_answer_same lent)) (outcome_agrees (refusal_of_rings N) (label_of N) lent lent' e)

  -- so they do with lists of any lengths that are enough
  pub label_fits_renumbered : (lent lent' : List ℕ) → (written (refusal_of_rings M) (label_of M) lent).number ≢ ROOM
      → (written (refusal_of_rings N) (label_of N) lent').number ≢ ROOM
      → Agree (written (refusal_of_rings M) (label_of M) lent) (written (refusal_of_rings N) (label_of N) lent')
  label_fits_renumbered lent lent' h g =
      subst (λ x. Agree x (written (refusal_of_rings N) (label_of N) lent')) (sym (label_answer_same lent))
      (outcome_fits (refusal_of_rings N) (label_of N) lent lent' (λ z. h (ap (λ (o : Outcome (List ℕ)). o.number) (label_answer_same lent) ∙ z)) g)
