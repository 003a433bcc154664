-- What is left of a ring while the sets kept are summed with it: each sum takes its lowest bond away, so that the lowest bond rises until
-- no set is kept there or nothing is left. Assumes nothing.
use mathlib.Core.Path.{◌≡◌, sym, ap, subst⁻¹, ◌∙◌}
use mathlib.Core.Bool.{Bool, true, false}
use mathlib.Core.List.{List}
use Prim.Native.Nat.{ℕ, ◌+◌, ◌-◌, ◌^◌, ◌<◌}
use native.Mathlib.Decide.{dec_lt, ℕ_discrete}
use native.Mathlib.Omega.{arith}
use borrow.Author.Tests.{eqb-true, eqb-false}
use lib.Bits.{bit_xor}
use lib.Count.{count_trailing_zeros}
use lib.Dec.{eqb}
use lib.ListN.{get_or}
use Rattle.std.specs.Int.Count.{trailing_of_zero}
use Rattle.sets.specs.Bits.{has, IsNext}
use Rattle.sets.specs.Bond.{room}
use Rattle.sets.proofs.Machine.{trailing_member, trailing_none}
use Rattle.definitions.proofs.Tests.{clashes}
use Rattle.spans.specs.Elimination.{Lowest, Rows, Left, Remainder}
use Rattle.spans.proofs.Elimination.{lowest_unique, lowest_first, nothing-first, lowest_some, lowest_rises, left_step}

-- how many bonds there are from the lowest of a set on
abbrev pub from_lowest : ℕ → ℕ
from_lowest s = room - count_trailing_zeros room s

-- a set with a bond has a lowest one, the first
pub some_lowest : {s k : ℕ} {t : Bool} → s < 2 ^ room → t ≡ eqb s 0 → t ≡ false → IsNext room s 0 k → (k < room) × Lowest s k
some_lowest {s} {k} b e some next = go (dec_lt k room)
  where
    go : Dec (k < room) → (k < room) × Lowest s k
    go (yes l) = (l, lowest_first room next l)
    go (no n) = absurd (eqb-false s 0 (sym e ∙ some) (nothing-first room next b (omega arith)))

-- where no bond is left, nothing is
pub remainder_none : {kept : List ℕ} {x rest : ℕ} {t : Bool} → Left kept x rest → t ≡ eqb rest 0 → t ≡ true → Remainder kept x rest
remainder_none {rest = rest} left e none = record { left = left; free = λ j l. absurd (lowest_some l (eqb-true rest 0 (sym e ∙ none))) }

module _ (kept : List ℕ) {rest k v : ℕ} {t : Bool} (low : Lowest rest k) (at : v ≡ get_or kept k 0) (e : t ≡ eqb v 0) where
  -- no set is kept at the lowest bond
  pub remainder_some : {x : ℕ} → Left kept x rest → t ≡ true → Remainder kept x rest
  remainder_some left gone = record {
    left = left;
    free = λ j l. ap (λ (i : ℕ). get_or kept i 0) (lowest_unique l low) ∙ sym at ∙ eqb-true v 0 (sym e ∙ gone);
  }

  -- one is, and it is taken away: the lowest bond is higher
  pub reduced_falls : {y : ℕ} → Rows kept → t ≡ false → rest < 2 ^ room → y ≡ bit_xor rest v → y < 2 ^ room → k < room → from_lowest y < from_lowest rest
  reduced_falls {y} rows some b sum c h = go (ℕ_discrete y 0)
    where
      here : count_trailing_zeros room rest ≡ k
      here = lowest_unique (record { member = trailing_member room rest (let n = lowest_some low in omega arith) b; none_below = trailing_none room rest }) low

      gone : (j : ℕ) → j < k + 1 → has y j ≡ false
      gone j l =
          ap (λ (s : ℕ). has s j) (sum ∙ ap (bit_xor rest) at)
          ∙ lowest_rises low (rows k (λ z. eqb-false v 0 (sym e ∙ some) (at ∙ z))) j l

      go : Dec (y ≡ 0) → from_lowest y < from_lowest rest
      go (yes z) = omega (arith, ap (count_trailing_zeros room) z, trailing_of_zero room, here)
      go (no n) = higher (dec_lt k (count_trailing_zeros room y))
        where
          higher : Dec (k < count_trailing_zeros room y) → from_lowest y < from_lowest rest
          higher (yes l) = omega (arith, here)
          higher (no m) = clashes (trailing_member room y (omega arith) c) (gone (count_trailing_zeros room y) (omega arith))

-- what is left then differs from the ring by a sum of sets kept
pub reduced_left : (kept : List ℕ) (x rest k : ℕ) {v y : ℕ} → Left kept x rest → v ≡ get_or kept k 0 → y ≡ bit_xor rest v → Left kept x y
reduced_left kept x rest k left at sum = subst⁻¹ (Left kept x) (sum ∙ ap (bit_xor rest) at) (left_step kept k x rest left)
