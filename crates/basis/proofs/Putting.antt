-- A number put into a set of the numbers below m: it is a member where it is below m, and no other member comes or goes. Assumes nothing.
use mathlib.Core.Path.{◌≡◌, sym}
use mathlib.Core.Logic.{◌⊎◌, inl, inr, ⊎_elim}
use mathlib.Core.Bool.{true}
use Prim.Native.Nat.{ℕ, ◌<◌}
use borrow.Author.Tests.{ltb-true, ltb-false}
use lib.Dec.{ltb}
use Rattle.sets.specs.Bits.{has, put}
use Rattle.sets.proofs.Machine.{put_below, put_above}
use Rattle.definitions.proofs.Tests.{by}
use Rattle.definitions.proofs.Paths.{with_new, with_old, with-other}

module _ (m s k : ℕ) where
  -- it is a member
  pub put_new : k < m → has (put m s k) k ≡ true
  put_new l = rw (put_below m s k l) (with_new s k)

  -- what was a member is one
  pub put_old : (j : ℕ) → has s j ≡ true → has (put m s k) j ≡ true
  put_old j e = by (ltb k m) (λ t. rw (put_below m s k (ltb-true k m t)) (with_old s k j e)) (λ t. rw (put_above m s k (ltb-false k m t)) e)

  -- and nothing else is
  pub put_from : (j : ℕ) → has (put m s k) j ≡ true → (has s j ≡ true) ⊎ ((j ≡ k) × (k < m))
  put_from j e =
      by (ltb k m)
      (λ t. let l = ltb-true k m t in ⊎_elim inl (λ q. inr (sym q, l)) (with-other s k j (rw (put_below m s k l) at e)))
      (λ t. inl (rw (put_above m s k (ltb-false k m t)) at e))
