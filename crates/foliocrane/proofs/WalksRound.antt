-- The walk round a ring over calls, by the postcondition of `foliocrane_ring_walk`. Assumes nothing.
use mathlib.Core.Path.{◌≡◌, refl, sym, ap, subst₂, ◌∙◌}
use mathlib.Core.Logic.{◌≢◌, ◌↔◌}
use mathlib.Core.Bool.{Bool, true, false}
use mathlib.Core.List.{List}
use Prim.Native.Nat.{ℕ, zero, suc}
use native.Mathlib.Omega.{arith}
use Rattle.definitions.specs.Table.{refusal, ROOM, NOTRING}
use Rattle.definitions.specs.Ring.{Ring}
use Rattle.definitions.specs.Walk.{walk_atoms, walk_bonds}
use Rattle.definitions.specs.Answer.{Outcome, outcome, written_both, refusal_of_walk}
use Rattle.definitions.specs.Sentences.{NoRing}
use Rattle.definitions.proofs.Refusals.{walk-accepted, walk_refused}
use Rattle.walking.specs.OneWalk.{OneWalk}
use Rattle.walking.proofs.Steps.{atoms-length, bonds-length}
use Rattle.walking.proofs.Rings.{each-ring-one-walk}
use Rattle.foliocrane.specs.Call.{Call, CalledBoth, CalledBoth.called_both, table_in}
use Rattle.foliocrane.specs.WalksRound.{WalksRound}
use Rattle.foliocrane.proofs.Answered.{outcome-free, ring-walk_answers}
use Rattle.foliocrane.proofs.Tied.{bytes-given}
use Rattle.foliocrane.proofs.foliocrane_ring_walk.Reads as walk

-- a number other than 0 and 8 is that of an outcome exactly where it is the refusal
outcome-other : {A : Type 0} (k c : ℕ) (room : Bool) (n : ℕ) (new lent : A) → k ≢ 0 → k ≢ ROOM → ((outcome c room n new lent).number ≡ k) ↔ (c ≡ k)
unfolding outcome
outcome-other k zero true n new lent z r = (λ e. absurd (z (sym e)), λ e. absurd (z (sym e)))
outcome-other k zero false n new lent z r = (λ e. absurd (r (sym e)), λ e. absurd (z (sym e)))
outcome-other k (suc c) room n new lent z r = (λ e. e, λ e. e)

-- the number is that of the outcome, for both lists
numbers : (s : ℕ) (c d : Call) → CalledBoth walk.Post s c d
    → (c.number ≡ (written_both (refusal_of_walk (table_in c) s) (walk_atoms (table_in c) s, walk_bonds (table_in c) s) (c.lent, d.lent)).number)
    × (d.number ≡ c.number)
numbers s c d (called_both p) = (ap (λ (o : Outcome (List ℕ × List ℕ)). o.number) p.0, refl)

module _ (s : ℕ) (c d : Call) (h : CalledBoth walk.Post s c d) where
  number : c.number ≡ (written_both (refusal_of_walk (table_in c) s) (walk_atoms (table_in c) s, walk_bonds (table_in c) s) (c.lent, d.lent)).number
  number = (numbers s c d h).0

  -- without a refusal the table is accepted and the set is a ring
  number-ring : c.number ≡ 0 → (refusal (table_in c) ≡ 0) × Ring (table_in c) s
  unfolding written_both
  number-ring z = (walk-accepted (table_in c) s).0 (outcome-free _ _ _ _ _ (sym number ∙ z))

  -- 9 is that of a set that is none
  number_no_ring : (c.number ≡ NOTRING) ↔ ((refusal (table_in c) ≡ 0) × NoRing (table_in c) s)
  unfolding written_both
  number_no_ring =
      let o = outcome-other NOTRING (refusal_of_walk (table_in c) s) _ _ _ _ (λ q. omega arith) (λ q. omega arith) in
      let w = walk_refused (table_in c) s in
      (λ z. w.0 (o.0 (sym number ∙ z)), λ p. number ∙ o.1 (w.1 p))

  -- what a call has given is the walk round a ring, and a set is refused with 9 exactly if it is none
  pub ring-walk_exact : WalksRound s c d
  ring-walk_exact =
      let M = table_in c in
      let (atoms, bonds) = ring-walk_answers s c d h in
      record {
        ring = λ z. (number-ring z).1;
        long = λ z. (atoms.given z).0;
        walk = λ z. let (y, r) = number-ring z in
            subst₂ (OneWalk M s)
            (sym (bytes-given c z (walk_atoms M s) (sym (atoms-length M s)) atoms))
            (sym (bytes-given d ((numbers s c d h).1 ∙ z) (walk_bonds M s) (sym (bonds-length M s)) bonds))
            (each-ring-one-walk M y s r);
        no_ring = number_no_ring;
      }
