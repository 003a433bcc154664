-- The smallest basis by elimination: a ring is taken where something is left of it. When as many are taken as there are basis rings, the
-- rest adds nothing. Assumes nothing.
use mathlib.Core.Path.{◌≡◌, refl, sym, ap, ◌∙◌}
use mathlib.Core.List.{List, [], ◌∷◌, ◌++◌}
use Prim.Native.Nat.{ℕ, ◌+◌, ◌-◌, ◌<◌, ◌≤◌}
use native.Mathlib.Numerals.{add-one}
use native.Mathlib.Omega.{arith}
use lib.ListN.{length, take, drop, get_or, set, replicate, length-set, length-replicate, get_or-replicate}
use lib.Seq.{take-suc-set, drop-set-lt, length-take-le, drop-drop}
use Rattle.sets.specs.Bond.{room}
use Rattle.definitions.specs.Smallest.{SumOf, sum?, taking}
use Rattle.definitions.proofs.Tests.{by, not_passed, clashes}
use Rattle.definitions.proofs.Lists.{length_snoc}
use Rattle.spans.proofs.Choice.{sum?_test}
use Rattle.spans.proofs.Taking.{taking_full, taking_leave_at, taking-keep-at}
use Rattle.spans.specs.Elimination.{Lowest, Remainder}
use Rattle.spans.proofs.Elimination.{kept-none, kept-zero, kept-left, kept_more}
use Rattle.choosing.specs.Elimination.{taken_with, Eliminated, Stepped, Choosable, Selected}

-- ---- one ring more

module _ (taken : List ℕ) (x : ℕ) where
  -- a sum of rings taken is passed over
  with-sum : SumOf taken x → taken_with taken x ≡ taken
  unfolding taken_with
  with-sum s = rw ((sum?_test taken x).1 s, taken_with)

  -- any other is taken
  with_new : (SumOf taken x → ⊥) → taken_with taken x ≡ taken ++ x ∷ []
  unfolding taken_with
  with_new n = rw (not_passed (sum? taken x) (λ h. n ((sum?_test taken x).0 h)), taken_with)

  -- it is one more at most
  with-length : (length taken ≤ length (taken_with taken x)) × (length (taken_with taken x) ≤ length taken + 1)
  with-length =
      by (sum? taken x)
      (λ h. rw (with-sum ((sum?_test taken x).0 h)) (omega arith))
      (λ h. rw (with_new (λ s. clashes ((sum?_test taken x).1 s) h)) (omega (arith, length_snoc taken x)))

module _ {kept taken : List ℕ} {n ring rest : ℕ} (e : Eliminated kept taken n) (left : Remainder kept ring rest) where
  -- something is left: the ring is taken, and what is left is kept
  pub step_new : {k : ℕ} {kept' taken' : List ℕ} → n < room → (k < room) × Lowest rest k → kept' ≡ set kept k rest → taken' ≡ set taken n ring → Stepped taken n ring kept' taken' (n + 1)
  step_new {k} h (l, low) p q =
      rw (p, q) (record {
        state = record {
          long = length-set kept k rest ∙ e.long;
          lent = length-set taken n ring ∙ e.lent;
          few = omega arith;
          sums = rw more (kept_more e.sums left low (omega (arith, e.long)));
        };
        list = more ∙ sym (with_new (take n taken) ring (kept-left e.sums left low));
        rest = drop-set-lt (n + 1) taken n ring (omega arith);
      })
    where
      more : take (n + 1) (set taken n ring) ≡ take n taken ++ ring ∷ []
      more = rw add-one (take-suc-set taken n ring (omega (arith, e.lent)))

  -- nothing is left: it is passed over
  pub step_old : rest ≡ 0 → Stepped taken n ring kept taken n
  step_old none = record { state = e; list = sym (with-sum (take n taken) ring (kept-zero e.sums left none)); rest = refl }

-- lists that agree from one place on agree from a later one on
drop-later : (l m : List ℕ) (i j : ℕ) → i ≤ j → drop i l ≡ drop i m → drop j l ≡ drop j m
drop-later l m i j h e = split l ∙ ap (drop (j - i)) e ∙ sym (split m)
  where
    split : (k : List ℕ) → drop j k ≡ drop (j - i) (drop i k)
    split k = ap (λ n. drop n k) {x = j} {y = i + (j - i)} (omega arith) ∙ sym (drop-drop (j - i) i k)

-- ---- the loop: i rings are gone through, and n of them are taken

pub record Selecting (found : List ℕ) (want : ℕ) (start kept taken : List ℕ) (n i : ℕ) : Type 0 where
  pub count : n ≤ want
  pub state : Eliminated kept taken n
  pub list : take n taken ≡ taking [] (take i found)
  pub rest : drop n taken ≡ drop n start

module _ {found : List ℕ} {want : ℕ} {start : List ℕ} (c : Choosable found want start) where
  -- before the first ring none is taken
  pub selecting_none : {kept : List ℕ} → kept ≡ replicate room 0 → Selecting found want start kept start 0 0
  unfolding taking
  selecting_none blank =
      rw blank (record {
        count = omega arith;
        state = record { long = length-replicate {A = ℕ} room 0; lent = c.lent; few = omega arith; sums = kept-none (replicate room 0) (λ k l. get_or-replicate room k 0 0 l) };
        list = refl;
        rest = refl;
      })

  module _ {kept taken : List ℕ} {n i : ℕ} (s : Selecting found want start kept taken n i) where
    -- one ring more
    pub selecting_more : {x : ℕ} {kept' taken' : List ℕ} {r : ℕ} → i < length found → (n ≡ want → ⊥) → x ≡ get_or found i 0 → Stepped taken n x kept' taken' r
        → Selecting found want start kept' taken' r (i + 1)
    selecting_more {x} {kept'} {taken'} {r} l h q t =
        record {
          count = omega (arith, s.count, now, (with-length (take n taken) (get_or found i 0)).1, before);
          state = step.state;
          list = step.list ∙ ap (λ l. taken_with l (get_or found i 0)) s.list ∙ next;
          rest = step.rest ∙ drop-later taken start n r (omega (arith, now, (with-length (take n taken) (get_or found i 0)).0, before)) s.rest;
        }
      where
        step : Stepped taken n (get_or found i 0) kept' taken' r
        step = rw q at t

        before : length (take n taken) ≡ n
        before = length-take-le n taken (omega (arith, s.state.few, s.state.lent))

        now : length (taken_with (take n taken) (get_or found i 0)) ≡ r
        now = ap length (sym step.list) ∙ length-take-le r taken' (omega (arith, step.state.few, step.state.lent))

        next : taken_with (taking [] (take i found)) (get_or found i 0) ≡ taking [] (take (i + 1) found)
        next =
            by (sum? (taking [] (take i found)) (get_or found i 0))
            (λ q. let is = (sum?_test (taking [] (take i found)) (get_or found i 0)).0 q in
            with-sum (taking [] (take i found)) (get_or found i 0) is ∙ sym (taking_leave_at found i l is))
            (λ q. let is : SumOf (taking [] (take i found)) (get_or found i 0) → ⊥ = λ u. clashes ((sum?_test (taking [] (take i found)) (get_or found i 0)).1 u) q in
            with_new (taking [] (take i found)) (get_or found i 0) is ∙ sym (taking-keep-at found i l is))

    -- as many are taken as are wanted
    pub selecting_full : n ≡ want → Selected found start taken n
    selecting_full h = record {
      long = s.state.lent;
      few = s.state.few;
      list = s.list ∙ sym (taking_full i found c.spanned.0 c.spanned.2 enough);
      rest = s.rest;
    }
      where
        enough : length c.spanned.0 ≤ length (taking [] (take i found))
        enough = omega (arith, c.spanned.1, ap length s.list, length-take-le n taken (omega (arith, s.state.few, s.state.lent)))
