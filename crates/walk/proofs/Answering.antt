-- The answer: what was noted is what is wanted, each return is the one that the contract names, and the bytes alone say as much as the table.
-- Assumes nothing.
use mathlib.Core.Path.{◌≡◌, refl, sym, ap, ap₂, ◌∙◌}
use mathlib.Core.Bool.{Bool, true, false, cond, ◌&&◌}
use mathlib.Core.List.{List, ◌∷◌, ◌++◌, map}
use Prim.Native.Nat.{ℕ, zero, suc, ◌+◌, ◌≤◌}
use native.Mathlib.Omega.{arith}
use lib.Dec.{eqb}
use lib.ListN.{length, take, drop}
use lib.Seq.{sets, sets-eq, take_at}
use Rattle.sets.specs.Bits.{size}
use Rattle.definitions.specs.Table.{Table, table, refusal, NOTRING}
use Rattle.definitions.specs.Ring.{degree, ring?}
use Rattle.definitions.specs.Walk.{other_bond, onward, walk_from, walk_start, walk_of, walk_atoms, walk_bonds}
use Rattle.definitions.specs.Answer.{Outcome, over, refusal_of_walk, written_both}
use Rattle.definitions.proofs.Tests.{not_passed, same_test, true_of}
use Rattle.definitions.proofs.Refusals.{tells_rooms, walk_kept, walk-free}
use Rattle.definitions.proofs.Rings.{ring_test}
use Rattle.std.proofs.Common.{Ok, Err}
use Rattle.answers.specs.Told.{number_of, told}
use Rattle.answers.specs.declared.refusal.Refusal.{Refusal}
use Rattle.answers.specs.declared.refusal.Refusal.TheVariants.{NotRing, Room}
use Rattle.answers.proofs.Answers.{number-some, outcome-refused, outcome_short, outcome-given}
use Rattle.table.specs.Ends.{bonds_alone}
use Rattle.walking.specs.Closing.{closes?, walks?}
use Rattle.walking.proofs.Steps.{atoms-length, bonds-length}
use Rattle.walking.proofs.Rings.{ring-by_walking}
use Rattle.walk.specs.Going.{noted}
use Rattle.walk.specs.declared.round.Walk.{Walk}

-- items that are noted from the start of a list on stand over the start of a lent one, where as many are copied from there
copied : (lent l items : List ℕ) {l' part : List ℕ} {n : ℕ} → l' ≡ sets l 0 items → part ≡ take n l' → length items ≡ n → n ≤ length l → part ++ drop n lent ≡ over items lent
unfolding over
copied lent l items {n = n} h e all few =
    ap₂ (λ (a : List ℕ) (k : ℕ). a ++ drop k lent) (e ∙ ap (take n) (h ∙ sets-eq items l 0 (omega arith)) ∙ take_at items (drop (0 + length items) l) n all) (sym all)

module _ (M : Table) (s : ℕ) (lent : List ℕ × List ℕ) where
  -- c is told, or where it is 0 the lists of the walk are written
  abbrev answer : ℕ → Outcome (List ℕ × List ℕ)
  answer c = written_both c (walk_atoms M s, walk_bonds M s) lent

  -- a refusal is told with nothing written
  both_refused : {c : ℕ} → (e : Refusal) → number_of e ≡ c → told (Err e) lent ≡ answer c
  unfolding written_both
  both_refused e given = outcome-refused _ _ _ lent e given

  -- where the walk tells whether one comes round
  module _ {t : Bool} (closes : t ≡ walks? M s) where
    -- the number for a set of an accepted table
    abbrev number : ℕ
    number = cond (walks? M s) 0 NOTRING

    -- where one does not, that is told
    pub walked_refused : t ≡ false → told (Err NotRing) lent ≡ answer number
    walked_refused e = both_refused NotRing (ap (λ (b : Bool). cond b 0 NOTRING) (sym e ∙ closes))

    module _ (e : t ≡ true) {n : ℕ} (all : n ≡ size s) where
      -- nothing is refused
      free : 0 ≡ number
      free = ap (λ (b : Bool). cond b 0 NOTRING) (sym e ∙ closes)

      -- where one does, that a list is too short
      pub walked_short : (n ≤ length lent.0 → n ≤ length lent.1 → ⊥) → told (Err Room) lent ≡ answer number
      unfolding written_both
      walked_short short =
          outcome_short _ _ _ lent free
          (not_passed _ (λ r.
          let (i, j) = (tells_rooms (walk_atoms M s) (walk_bonds M s) lent.0 lent.1).yes_says r in
          short (omega (arith, atoms-length M s)) (omega (arith, bonds-length M s))))

      -- or what was noted is copied
      pub walked_given : (n ≤ length lent.0) × (n ≤ length lent.1) → (w : Walk) {w' : Walk} {a b : List ℕ} → (t ≡ true → w' ≡ noted w 0 (walk_of M s))
          → n ≤ length w.atoms → n ≤ length w.bonds → a ≡ take n w'.atoms → b ≡ take n w'.bonds
          → told (Ok n) (a ++ drop n lent.0, b ++ drop n lent.1) ≡ answer number
      unfolding written_both walk_atoms walk_bonds
      walked_given (i, j) w noted-is few few' f g =
          outcome-given _ _ _ lent free
          (true_of (tells_rooms (walk_atoms M s) (walk_bonds M s) lent.0 lent.1) (omega (arith, atoms-length M s), omega (arith, bonds-length M s)))
          (all ∙ sym (atoms-length M s))
          (ap₂ (λ (a b : List ℕ). (a, b))
          (copied lent.0 w.atoms _ (ap (λ (x : Walk). x.atoms) (noted-is e)) f (atoms-length M s ∙ sym all) few)
          (copied lent.1 w.bonds _ (ap (λ (x : Walk). x.bonds) (noted-is e)) g (bonds-length M s ∙ sym all) few'))

-- ---- only the bonds are asked

module _ (x : ℕ) (bs : List ℕ) (s : ℕ) where
  -- by the test of a walk
  closes_alone : (a n : ℕ) (p : ℕ × ℕ) → closes? (table x bs) s a n p ≡ closes? (bonds_alone bs) s a n p
  unfolding closes? onward other_bond degree
  closes_alone a zero p = refl
  closes_alone a (suc n) p =
      ap (λ (b : Bool). eqb (degree (bonds_alone bs) s (onward (bonds_alone bs) s p).0) 2 && cond (eqb (onward (bonds_alone bs) s p).0 a) (eqb n 0) b)
      (closes_alone a n (onward (bonds_alone bs) s p))

  -- by the walk
  from_alone : (n : ℕ) (p : ℕ × ℕ) → walk_from (table x bs) s n p ≡ walk_from (bonds_alone bs) s n p
  unfolding walk_from onward other_bond
  from_alone zero p = refl
  from_alone (suc n) p = ap (λ (l : List (ℕ × ℕ)). p ∷ l) (from_alone n (onward (bonds_alone bs) s p))

  -- so by its atoms and its bonds
  atoms_alone : walk_atoms (bonds_alone bs) s ≡ walk_atoms (table x bs) s
  unfolding walk_atoms walk_of walk_start
  atoms_alone = ap (map (λ p. p.0)) (sym (from_alone (size s) (walk_start (bonds_alone bs) s)))

  bonds_alone_lem : walk_bonds (bonds_alone bs) s ≡ walk_bonds (table x bs) s
  unfolding walk_bonds walk_of walk_start
  bonds_alone_lem = ap (map (λ p. p.1)) (sym (from_alone (size s) (walk_start (bonds_alone bs) s)))

  -- one comes round exactly where the set is a ring
  walks_ring : refusal (table x bs) ≡ 0 → walks? (bonds_alone bs) s ≡ ring? (table x bs) s
  unfolding walks? walk_start
  walks_ring e =
      sym (closes_alone (walk_start (bonds_alone bs) s).0 (size s) (walk_start (bonds_alone bs) s))
      ∙ same_test (walks? (table x bs) s) (ring? (table x bs) s)
      (λ w. (ring_test (table x bs) s).1 ((ring-by_walking (table x bs) e s).0 w))
      (λ r. (ring-by_walking (table x bs) e s).1 ((ring_test (table x bs) s).0 r))

  -- so of an accepted table the bytes alone are answered as the table
  pub alone_answer : refusal (table x bs) ≡ 0 → (lent : List ℕ × List ℕ) {o : Outcome (List ℕ × List ℕ)}
      → o ≡ answer (bonds_alone bs) s lent (cond (walks? (bonds_alone bs) s) 0 NOTRING) → o ≡ answer (table x bs) s lent (refusal_of_walk (table x bs) s)
  alone_answer e lent h = h ∙ rw (walks_ring e, atoms_alone, bonds_alone_lem, ← walk-free (table x bs) s e) refl

  -- and the refusal of a refused one is told
  pub refused_answer : (e : Refusal) → number_of e ≡ refusal (table x bs) → (lent : List ℕ × List ℕ) → told (Err e) lent ≡ answer (table x bs) s lent (refusal_of_walk (table x bs) s)
  refused_answer e given lent =
      both_refused (table x bs) s lent e (given ∙ sym (walk_kept (table x bs) s (λ z. omega (arith, given, number-some e))))
