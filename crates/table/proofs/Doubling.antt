-- Pairs of atoms that are bonded twice, as the rows tell them: where bond k joins two different atoms, a bond before it is in the rows of
-- both exactly where it has the same two atoms. Assumes nothing.
use mathlib.Core.Path.{◌≡◌, sym, ◌∙◌}
use mathlib.Core.Logic.{◌≢◌, ◌⊎◌, inl, inr, ⊎_elim}
use mathlib.Core.Bool.{Bool, true, false}
use mathlib.Core.List.{List}
use Prim.Native.Nat.{ℕ, ◌/◌, ◌<◌}
use lib.ListN.{length, get_or}
use lib.Dec.{ltb}
use borrow.Author.Tests.{eqb-false, ltb-true, lt-ltb}
use Rattle.sets.specs.Bits.{has, meet}
use Rattle.sets.specs.Lists.{sets_in}
use Rattle.sets.proofs.Members.{common, meet_of}
use Rattle.definitions.specs.Search.{set_of}
use Rattle.definitions.specs.Table.{Table, tail, head, meets?, self_bond?, alike?, seen_before?}
use Rattle.definitions.specs.Sentences.{Alike}
use Rattle.definitions.proofs.Tests.{same_test, and_both, both_and, tells_eqb, tells_or, true_of, some_at, some_of}
use Rattle.definitions.proofs.Lists.{has-set_of}
use Rattle.definitions.proofs.Refusals.{tells_alike}
use Rattle.table.specs.Ends.{bonds_alone}
use Rattle.table.specs.Rows.{Rowed}
use Rattle.table.proofs.Fitting.{EndAt}

-- the row of atom a by the bonds below k
abbrev row_below : Table → ℕ → ℕ → ℕ
row_below M k a = set_of k (meets? M a)

-- bond j meets atom a
abbrev Meets : Table → ℕ → ℕ → Type 0
Meets M a j = (tail M j ≡ a) ⊎ (head M j ≡ a)

-- a bond of a row meets its atom, and each bond below k that meets it is in the row
row_meets : (M : Table) (k a j : ℕ) → has (row_below M k a) j ≡ true → (j < k) × Meets M a j
row_meets M k a j e =
    let h = and_both (ltb j k) (meets? M a j) (sym (has-set_of k (meets? M a) j) ∙ e) in
    (ltb-true j k h.0, (tells_or (tells_eqb _ _) (tells_eqb _ _)).yes_says h.1)

meets_row : (M : Table) (k a j : ℕ) → j < k → Meets M a j → has (row_below M k a) j ≡ true
meets_row M k a j l m = has-set_of k (meets? M a) j ∙ both_and (lt-ltb j k l) (true_of (tells_or (tells_eqb _ _) (tells_eqb _ _)) m)

-- a bond that meets both atoms of a bond that is no self bond has the same two atoms
meets_alike : (M : Table) (k j : ℕ) → tail M k ≢ head M k → Meets M (tail M k) j → Meets M (head M k) j → Alike M k j
meets_alike M k j no_self m n =
    ⊎_elim
    (λ p. ⊎_elim (λ q. absurd (no_self (sym p ∙ q))) (λ q. inl (sym p, sym q)) n)
    (λ p. ⊎_elim (λ q. inr (sym p, sym q)) (λ q. absurd (no_self (sym p ∙ q))) n)
    m

-- a bond with the same two atoms meets both
alike_meets : (M : Table) (k j : ℕ) → Alike M k j → Meets M (tail M k) j × Meets M (head M k) j
alike_meets M k j a = ⊎_elim (λ s. (inl (sym s.0), inr (sym s.1))) (λ s. (inr (sym s.0), inl (sym s.1))) a

-- so the rows of the two atoms of bond k, by the bonds below it, share a bond exactly where its pair is seen before
shared_seen : (M : Table) (k : ℕ) → self_bond? M k ≡ false → meet (row_below M k (tail M k)) (row_below M k (head M k)) ≡ seen_before? M k
unfolding seen_before?
shared_seen M k no_self = same_test _ _ to from
  where
    to : meet (row_below M k (tail M k)) (row_below M k (head M k)) ≡ true → seen_before? M k ≡ true
    to e =
        let c = common (row_below M k (tail M k)) (row_below M k (head M k)) e in
        let m = row_meets M k (tail M k) c.0 c.1 in
        let n = row_meets M k (head M k) c.0 c.2 in
        some_of k (alike? M k) c.0 m.0 (true_of (tells_alike M k c.0) (meets_alike M k c.0 (eqb-false _ _ no_self) m.1 n.1))

    from : seen_before? M k ≡ true → meet (row_below M k (tail M k)) (row_below M k (head M k)) ≡ true
    from e =
        let s = some_at k (alike? M k) e in
        let m = alike_meets M k s.0 ((tells_alike M k s.0).yes_says s.2) in
        meet_of _ _ s.0 (meets_row M k (tail M k) s.0 s.1 m.0) (meets_row M k (head M k) s.0 s.1 m.1)

-- r says whether the rows s and t of a and b, the atoms of bond k, share a bond
pub rowed_seen : {bs rows : List ℕ} {k a b s t : ℕ} {r : Bool} → Rowed bs k rows → ((j : ℕ) → j < length bs / 2 → self_bond? (bonds_alone bs) j ≡ false)
    → k < length bs / 2 → EndAt a (tail (bonds_alone bs) k) → EndAt b (head (bonds_alone bs) k)
    → s ≡ get_or (sets_in rows) a 0 → t ≡ get_or (sets_in rows) b 0 → r ≡ meet s t → r ≡ seen_before? (bonds_alone bs) k
rowed_seen {bs} {k = k} {a} {b} h no_self l ea eb es et er =
    er ∙ rw (es, et, h.row a ea.1, h.row b eb.1, ea.0, eb.0) (shared_seen (bonds_alone bs) k (no_self k l))
