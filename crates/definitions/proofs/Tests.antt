-- Tests by Bool and what they say: every number below a bound, some number below a bound, the steps of a loop that looks for one, and
-- what a test that is made of others says. Assumes nothing.
use mathlib.Core.Path.{◌≡◌, refl, sym, ◌∙◌}
use mathlib.Core.Logic.{◌↔◌, ◌⊎◌, inl, inr, ⊎_elim}
use mathlib.Core.Bool.{or-true, or-false, Bool, true, false, ◌&&◌, ◌||◌, not, cond, true≢false, false≢true}
use Prim.Native.Nat.{ℕ, zero, suc, ◌+◌, ◌<◌, ◌≤◌}
use native.Mathlib.Numerals.{add-one}
use native.Mathlib.Nat.{le_antisymm}
use native.Mathlib.Omega.{arith}
use lib.Dec.{leb, ltb, eqb}
use borrow.Author.Tests.{leb-true, leb-false, ltb-true, ltb-false, lt-ltb, le-ltb, eqb-true, eqb-false, eq-eqb, ne_eqb, not-true, not-false}
use Rattle.definitions.specs.Search.{every, some?, Each, Some}

-- by cases of a test, with its equation
pub by : {A : Type 0} (b : Bool) → (b ≡ true → A) → (b ≡ false → A) → A
by true f g = f refl
by false f g = g refl

-- a test that does not pass fails
pub not_passed : (b : Bool) → (b ≡ true → ⊥) → b ≡ false
not_passed true h = absurd (h refl)
not_passed false h = refl

-- a test that does not fail passes
pub not_failed : (b : Bool) → (b ≡ false → ⊥) → b ≡ true
not_failed true h = refl
not_failed false h = absurd (h refl)

-- no test both passes and fails
pub clashes : {A : Type 0} {b : Bool} → b ≡ true → b ≡ false → A
clashes p q = absurd (true≢false (sym p ∙ q))

-- two tests that pass together are the same
pub same_test : (a b : Bool) → (a ≡ true → b ≡ true) → (b ≡ true → a ≡ true) → a ≡ b
same_test true b f g = sym (f refl)
same_test false true f g = g refl
same_test false false f g = refl

-- both of two tests pass
pub and_both : (a b : Bool) → a && b ≡ true → (a ≡ true) × (b ≡ true)
and_both true b e = (refl, e)
and_both false b e = absurd (false≢true e)

-- two tests that pass, pass together
pub both_and : {a b : Bool} → a ≡ true → b ≡ true → a && b ≡ true
both_and p q = rw (p, q)

-- one of two tests passes
pub or-one : (a b : Bool) → a || b ≡ true → (a ≡ true) ⊎ (b ≡ true)
or-one true b e = inl refl
or-one false b e = inr e

-- neither of two tests passes
pub or_neither : (a b : Bool) → a || b ≡ false → (a ≡ false) × (b ≡ false)
or_neither true b e = absurd (true≢false e)
or_neither false b e = (refl, e)

-- a number is itself, as a test
pub eqb_self : (n : ℕ) → eqb n n ≡ true
eqb_self n = eq-eqb n n refl

-- what counts k where x is below m + 1 counts it where x is below m, or m
pub below_next : (x m k : ℕ) → cond (ltb x (suc m)) k 0 ≡ cond (ltb x m) k 0 + cond (eqb x m) k 0
below_next x m k =
    by (ltb x m)
    (λ t. let l = ltb-true x m t in rw (t, lt-ltb x (suc m) (omega arith), ne_eqb x m (omega arith)) (omega arith))
    (λ t. let l = ltb-false x m t in by (eqb x m)
    (λ e. let q = eqb-true x m e in rw (t, e, lt-ltb x (suc m) (omega arith)) (omega arith))
    (λ e. let q = eqb-false x m e in rw (t, e, le-ltb x (suc m) (omega arith)) (omega arith)))

-- ---- each number below n, some number below n

-- below n and at n is below n + 1
pub each_more : {N : ℕ → Type 0} (n : ℕ) → Each n N → N n → Each (suc n) N
each_more {N} n all here k l = by (eqb k n) (λ e. rw (eqb-true k n e) here) (λ e. all k (omega (arith, eqb-false k n e)))

-- every number below n passes: each does
pub every-at : (n : ℕ) (p : ℕ → Bool) → every n p ≡ true → (k : ℕ) → k < n → p k ≡ true
unfolding every
every-at zero p e k l = absurd (omega arith)
every-at (suc n) p e k l =
    by (p n)
    (λ h. each_more n (every-at n p (rw (h, every) at e)) h k l)
    (λ h. absurd (false≢true (rw (h, every) at e)))

-- each number below n passes: every one does
pub every_of : (n : ℕ) (p : ℕ → Bool) → ((k : ℕ) → k < n → p k ≡ true) → every n p ≡ true
unfolding every
every_of zero p h = refl
every_of (suc n) p h = rw (h n (omega arith), every) (every_of n p (λ k l. h k (omega arith)))

-- some number below n passes: there is one
pub some_at : (n : ℕ) (p : ℕ → Bool) → some? n p ≡ true → (k : ℕ) × (k < n) × (p k ≡ true)
unfolding some?
some_at zero p e = absurd (false≢true e)
some_at (suc n) p e =
    by (p n) (λ h. (n, omega arith, h))
    (λ h. let r = some_at n p (rw (h, some?) at e) in (r.0, omega arith, r.2))

-- no number below n passes: each fails
pub none-at : (n : ℕ) (p : ℕ → Bool) → some? n p ≡ false → (k : ℕ) → k < n → p k ≡ false
unfolding some?
none-at zero p e k l = absurd (omega arith)
none-at (suc n) p e k l =
    by (p n)
    (λ h. absurd (true≢false (rw (h, some?) at e)))
    (λ h. each_more n (none-at n p (rw (h, some?) at e)) h k l)

-- a number below n that passes is found
pub some_of : (n : ℕ) (p : ℕ → Bool) (k : ℕ) → k < n → p k ≡ true → some? n p ≡ true
some_of n p k l h = not_failed (some? n p) (λ e. true≢false (sym h ∙ none-at n p e k l))

-- each number below n fails: none is found
pub none_of : (n : ℕ) (p : ℕ → Bool) → ((k : ℕ) → k < n → p k ≡ false) → some? n p ≡ false
none_of n p h = not_passed (some? n p) (λ e. let r = some_at n p e in true≢false (sym r.2 ∙ h r.0 r.1))

-- not every number below n passes: there is one that fails
pub every_fails : (n : ℕ) (p : ℕ → Bool) → every n p ≡ false → (k : ℕ) × (k < n) × (p k ≡ false)
unfolding every
every_fails zero p e = absurd (true≢false e)
every_fails (suc n) p e =
    by (p n)
    (λ h. let r = every_fails n p (rw (h, every) at e) in (r.0, omega arith, r.2))
    (λ h. (n, omega arith, h))

-- of tests that agree below n both find one, or neither
pub some_ext : (n : ℕ) (p q : ℕ → Bool) → ((k : ℕ) → k < n → p k ≡ q k) → some? n p ≡ some? n q
some_ext n p q h =
    same_test (some? n p) (some? n q)
    (λ e. let r = some_at n p e in some_of n q r.0 r.1 (sym (h r.0 r.1) ∙ r.2))
    (λ e. let r = some_at n q e in some_of n p r.0 r.1 (h r.0 r.1 ∙ r.2))

-- ---- a loop that looks for a number that passes, where r is what its test gave: it has seen none yet, it goes on, it stops at k, it ends
module _ (p : ℕ → Bool) where
  -- below 0 nothing is found
  pub some-none : some? 0 p ≡ false
  unfolding some?
  some-none = refl

  -- none is found up to n and the test at n failed: none is found up to n + 1
  pub some_more : {n : ℕ} {r : Bool} → some? n p ≡ false → r ≡ p n → r ≡ false → some? (n + 1) p ≡ false
  unfolding some?
  some_more h e here = rw (add-one, sym e ∙ here, some?) h

  -- it is told up to n and then of n: it is told up to n + 1
  pub some_or : {n : ℕ} {t r : Bool} → t ≡ some? n p → r ≡ p n → t || r ≡ some? (n + 1) p
  unfolding some?
  some_or {n} {t} {r} h e =
      rw (add-one, some?) (by (p n) (λ q. rw (q, e ∙ q) (or-true t)) (λ q. rw (q, e ∙ q) (or-false t ∙ h)))

  -- it is told up to the last
  pub some-last : {n k : ℕ} {t : Bool} → k ≤ n → n ≤ k → t ≡ some? k p → t ≡ some? n p
  some-last l g h = rw (le_antisymm g l) h

  -- the test at k passed: one is found
  pub some-found : {n k : ℕ} {r : Bool} → k < n → r ≡ p k → r ≡ true → true ≡ some? n p
  some-found {n} {k} l e here = sym (some_of n p k l (sym e ∙ here))

  -- none is found up to the last: none is found
  pub some_end : {n k : ℕ} → k ≤ n → n ≤ k → some? k p ≡ false → false ≡ some? n p
  some_end l g h = rw (le_antisymm g l) (sym h)

-- ---- what a test says

-- the test b decides: true says P, false says N, and the two clash
pub record Tells (b : Bool) (P N : Type 0) : Type 0 where
  pub yes_says : b ≡ true → P
  pub no_says : b ≡ false → N
  pub clash : P → N → ⊥

module _ {b : Bool} {P N : Type 0} (t : Tells b P N) where
  -- what a test says where it passes makes it pass
  pub true_of : P → b ≡ true
  true_of h = by b (λ e. e) (λ e. absurd (t.clash h (t.no_says e)))

  -- what a test says where it fails makes it fail
  pub false_of : N → b ≡ false
  false_of h = by b (λ e. absurd (t.clash (t.yes_says e) h)) (λ e. e)

  -- so the test passes exactly where what it says holds
  pub tells_iff : (b ≡ true) ↔ P
  tells_iff = (t.yes_says, true_of)

-- what the test ≤ says
pub tells_leb : (m n : ℕ) → Tells (leb m n) (m ≤ n) (n < m)
tells_leb m n = record { yes_says = leb-true m n; no_says = leb-false m n; clash = λ p q. omega arith }

-- what the test < says
pub tells_ltb : (m n : ℕ) → Tells (ltb m n) (m < n) (n ≤ m)
tells_ltb m n = record { yes_says = ltb-true m n; no_says = ltb-false m n; clash = λ p q. omega arith }

-- what the test of two numbers says
pub tells_eqb : (m n : ℕ) → Tells (eqb m n) (m ≡ n) (m ≡ n → ⊥)
tells_eqb m n = record { yes_says = eqb-true m n; no_says = eqb-false m n; clash = λ p q. q p }

-- the same test, said in other words
pub tells_as : {b : Bool} {P N P' N' : Type 0} → Tells b P N → (P → P') → (N → N') → (P' → N' → ⊥) → Tells b P' N'
tells_as t f g c = record { yes_says = λ e. f (t.yes_says e); no_says = λ e. g (t.no_says e); clash = c }

-- what fails where a test fails is what the test says
pub tells_not : {b : Bool} {P N : Type 0} → Tells b P N → Tells b P (P → ⊥)
tells_not t = tells_as t (λ p. p) (λ n p. t.clash p n) (λ p q. q p)

-- what a test says that is to fail
pub tells_turned : {b : Bool} {P N : Type 0} → Tells b P N → Tells (not b) N P
tells_turned {b} t = record { yes_says = λ e. t.no_says (not-true b e); no_says = λ e. t.yes_says (not-false b e); clash = λ n p. t.clash p n }

module _ {P Q N M : Type 0} where
  -- what two tests say of which one is to pass
  pub tells_or : {a b : Bool} → Tells a P N → Tells b Q M → Tells (a || b) (P ⊎ Q) (N × M)
  tells_or {a} {b} s t = record {
    yes_says = λ e. ⊎_elim (λ x. inl (s.yes_says x)) (λ y. inr (t.yes_says y)) (or-one a b e);
    no_says = λ e. (s.no_says (or_neither a b e).0, t.no_says (or_neither a b e).1);
    clash = λ e k. ⊎_elim (λ p. s.clash p k.0) (λ q. t.clash q k.1) e;
  }

  -- what two tests say that are both to pass
  pub tells_and : {a b : Bool} → Tells a P N → Tells b Q M → Tells (a && b) (P × Q) (N ⊎ M)
  tells_and {a} {b} s t = record {
    yes_says = λ e. (s.yes_says (and_both a b e).0, t.yes_says (and_both a b e).1);
    no_says = λ e. by a (λ x. inr (t.no_says (rw x at e))) (λ x. inl (s.no_says x));
    clash = λ k e. ⊎_elim (λ p. s.clash k.0 p) (λ q. t.clash k.1 q) e;
  }

-- a search says that there is one
pub tells_some : {P N : ℕ → Type 0} {p : ℕ → Bool} → ((k : ℕ) → Tells (p k) (P k) (N k)) → (n : ℕ) → Tells (some? n p) (Some n P) (Each n N)
tells_some {p = p} t n = record {
  yes_says = λ e. let r = some_at n p e in (r.0, r.1, (t r.0).yes_says r.2);
  no_says = λ e k l. (t k).no_says (none-at n p e k l);
  clash = λ s e. (t s.0).clash s.2 (e s.0 s.1);
}
