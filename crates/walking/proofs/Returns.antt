-- When a trail is a round. A trail that goes on in a ring comes back to its first atom before it meets another again: the part between an
-- atom and its return would be an even set in the ring, without the bond that leads to the part. A trail whose atoms have two bonds of the set
-- each does so too: that bond would be a third one. Assumes nothing.
use mathlib.Core.Path.{◌≡◌, sym, ap, ◌∙◌, subst}
use mathlib.Core.Logic.{◌≢◌, ◌⊎◌, ⊎_elim}
use Prim.Native.Nat.{ℕ, zero, suc, ◌+◌, ◌≤◌, ◌<◌}
use native.Mathlib.Nat.{add-zero, add-suc}
use native.Mathlib.Omega.{arith}
use lib.Dec.{eqb}
use borrow.Author.Tests.{eqb-true, eqb-false}
use Rattle.sets.specs.Bits.{has, size}
use Rattle.definitions.specs.Table.{Table}
use Rattle.definitions.specs.Ring.{Ring}
use Rattle.definitions.specs.Walk.{At}
use Rattle.definitions.proofs.Tests.{by}
use Rattle.definitions.proofs.Refusals.{Valid}
use Rattle.definitions.proofs.Paths.{joins_either}
use Rattle.walking.proofs.Apart.{Differ, Course, Course.differ, Course.closes, Course.catches, course, walked_found}
use Rattle.walking.proofs.Rounds.{Trail, Round, trail_reached, open_short, round_turn, round_size, round_all}

module _ {M : Table} (valid : Valid M) {s : ℕ} {A B : ℕ → ℕ} where
  -- ---- the part of a trail from an atom to its return, and the bond before it

  module _ {n : ℕ} (t : Trail M s A B n) (i d : ℕ) (p : 0 < d) (l : suc i + d ≤ n) (e : A (suc i + d) ≡ A (suc i)) (a : Differ A (suc i + d)) where
    -- the part is a round
    part : Round M s (λ k. A (suc i + k)) (λ k. B (suc i + k)) d
    part = record {
      trail = record {
        at = λ k h. t.at (suc i + k) (omega arith);
        joins = λ k h. rw add-suc (t.joins (suc i + k) (omega arith));
        turns = λ k h. rw add-suc (t.turns (suc i + k) (omega arith));
      };
      some = p;
      apart = λ x y h m. a (suc i + x) (suc i + y) (omega arith) (omega arith);
      closed = e ∙ ap A (sym (add-zero (suc i)));
    }

    -- and the bond before it is none of its bonds
    before : (k : ℕ) → k < d → B i ≢ B (suc i + k)
    before k h q =
        ⊎_elim (a i (suc i + k) (omega arith) (omega arith))
        (λ z. by (eqb (suc k) d)
        (λ u. a i (suc i) (omega arith) (omega arith) (z ∙ ap A (let w : suc (suc i + k) ≡ suc i + d = omega (arith, eqb-true (suc k) d u) in w) ∙ e))
        (λ u. a i (suc (suc i + k)) (omega arith) (omega (arith, eqb-false (suc k) d u)) z))
        (joins_either (t.joins i (omega arith)) (rw q (t.joins (suc i + k) (omega arith))))

  -- ---- in a ring

  -- a trail that goes on in a ring is a round
  pub ring_round : Ring M s → ((n : ℕ) → Trail M s A B n) → Round M s A B (size s)
  ring_round ring t = go (course A (suc (suc (size s))))
    where
      go : Course A (suc (suc (size s))) → Round M s A B (size s)
      go (differ a) = absurd (omega (arith, open_short (t (suc (size s))) a))
      go (closes j p l e a) =
          let r : Round M s A B j = record { trail = t j; some = p; apart = a; closed = e } in
          subst (Round M s A B) (sym (round_size valid r) ∙ ap size (round_all valid r ring)) r
      go (catches i d p l e a) =
          let u = t (suc i + d) in
          let w = part u i d p (omega arith) e a in
          let (k, h, q) = walked_found _ d (B i) (ap (λ (x : ℕ). has x (B i)) (round_all valid w ring) ∙ (u.at i (omega arith)).1) in
          absurd (before u i d p (omega arith) e a k h (sym q))

  -- ---- in a set with no third bond at an atom that is reached

  -- a trail that is back at its first atom after as many bonds as the set has, and not before, is a round
  pub two_round : Trail M s A B (size s) → ((i : ℕ) → i < size s → (k : ℕ) → At M s (A (suc i)) k → (k ≡ B i) ⊎ (k ≡ B (suc i)))
      → 0 < size s → A (size s) ≡ A 0 → ((i : ℕ) → 0 < i → i < size s → A i ≢ A 0) → Round M s A B (size s)
  two_round t two some closed not-before = go (course A (size s))
    where
      go : Course A (size s) → Round M s A B (size s)
      go (differ a) = record { trail = t; some = some; apart = a; closed = closed }
      go (closes j p l e a) = absurd (not-before j p l e)
      go (catches i zero p l e a) = absurd (omega arith)
      go (catches i (suc d) p l e a) =
          let w = part t i (suc d) p (omega arith) e a in
          absurd (⊎_elim (λ q. before t i (suc d) p (omega arith) e a d (omega arith) (sym q))
          (λ q. round_turn valid w d (omega arith) (q ∙ ap B (sym (add-zero (suc i)))))
          (two i (omega arith) (B (suc i + d)) (rw e at (trail_reached w.trail d (omega arith)))))
