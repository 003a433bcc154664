-- The tests of a table as the code tries them, one after another: those before place i have failed. Where the next one passes its number is
-- given, and 0 where all fail. Assumes nothing.
use mathlib.Core.Path.{◌≡◌, refl, sym, ap, ◌∙◌}
use mathlib.Core.Bool.{Bool, true, false, cond}
use Prim.Native.Nat.{ℕ, suc, ◌<◌}
use native.Mathlib.Omega.{arith}
use lib.ListN.{length}
use Rattle.definitions.specs.Search.{Each, some?}
use Rattle.definitions.specs.Table.{Table, bonds, self_bond?, seen_before?, TWICE, table_tests, refusal}
use Rattle.definitions.proofs.Tests.{by, each_more, none-at}
use Rattle.definitions.proofs.Refusals.{EvenBytes, GoodCount, FewBonds, test_at, first-at, first-none, tried_exactly}
use Rattle.table.specs.Ends.{Fitting}
use Rattle.table.proofs.Fitting.{inside_fitting}

-- the tests before place i have failed
pub record Tried (M : Table) (i : ℕ) : Type 0 where
  pub failed : Each i (λ j. (test_at (table_tests M) j).1 ≡ false)

-- the tests on numbers fail
pub tried_numbers : (M : Table) → EvenBytes M × GoodCount M × FewBonds M → Tried M 3
tried_numbers M h = record { failed = (tried_exactly M 3).1 (h.0, (h.1, (h.2, tt))) }

module _ {M : Table} {i : ℕ} (t : Tried M i) {r : Bool} (told : r ≡ (test_at (table_tests M) i).1) where
  -- the next test fails
  pub tried_more : r ≡ false → Tried M (suc i)
  tried_more e = record { failed = each_more i t.failed (sym told ∙ e) }

  -- the next test passes
  pub tried_found : r ≡ true → (test_at (table_tests M) i).0 ≡ refusal M
  unfolding refusal
  tried_found e = sym (first-at (table_tests M) i (t.failed, sym told ∙ e))

-- every test fails
pub tried_all : {M : Table} → Tried M (length (table_tests M)) → 0 ≡ refusal M
unfolding refusal
tried_all {M} t = sym (first-none (table_tests M) t.failed)

-- the last test is whether a pair is bonded twice
pub tried_filled : {M : Table} → Tried M 5 → {r : ℕ} → r ≡ cond (some? (bonds M) (seen_before? M)) TWICE 0 → r ≡ refusal M
tried_filled {M} t told =
    by (some? (bonds M) (seen_before? M))
    (λ e. told ∙ ap (λ (b : Bool). cond b TWICE 0) e ∙ tried_found t refl e)
    (λ e. told ∙ ap (λ (b : Bool). cond b TWICE 0) e ∙ tried_all (tried_more t refl e))

-- where no bond names an atom that is not below the count, the bytes fit
pub tried_fitting : {M : Table} → Tried M 4 → Fitting M.bytes
tried_fitting {M} t = let h = (tried_exactly M 4).0 t.failed in inside_fitting h.0 h.1.0.1 h.1.1.0 h.1.1.1.0

-- and where none joins an atom to itself, each joins two
pub tried_two : {M : Table} → Tried M 5 → (k : ℕ) → k < bonds M → self_bond? M k ≡ false
tried_two {M} t = none-at (bonds M) (self_bond? M) (t.failed 4 (omega arith))
