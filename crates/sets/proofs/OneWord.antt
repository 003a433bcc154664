-- A set in one word, as the functions need it. With the kinds and the sidecar's step, which writes the one word of a set, this file is what
-- knows how many words a set takes. Assumes nothing.
use mathlib.Core.List.{List, [], ◌∷◌}
use mathlib.Core.Path.{◌≡◌, refl, sym, ap, ◌∙◌}
use Prim.Native.Nat.{ℕ, zero, suc, ◌*◌, ◌^◌, ◌<◌}
use native.Mathlib.Omega.{arith}
use lib.Dec.{lit<}
use lib.ListN.{length, get_or, set, take, drop}
use lib.Seq.{drop-cons}
use Rattle.sets.specs.Lists.{words, value_of, sets_in, Put}
use Rattle.sets.proofs.Lists.{Words, sets-length, sets-at, sets-put}

-- one word, as a number
pub single : (x : ℕ) → value_of (x ∷ []) ≡ x
unfolding value_of
single x = omega arith

-- the first word of a set's words is the set
pub one_value : (ws : List ℕ) → length ws ≡ words → get_or ws 0 0 ≡ value_of ws
one_value [] e = absurd (omega arith)
one_value (w ∷ []) e = sym (single w)
one_value (w ∷ v ∷ ws) e = absurd (omega arith)

-- ---- in a list

pub one_read : (ws : List ℕ) (i : ℕ) → i < length (sets_in ws) → get_or ws i 0 ≡ get_or (sets_in ws) i 0
one_read ws i h =
    let at : i * 1 ≡ i = omega arith in
    sym (sets-at ws i h ∙ ap (λ (k : ℕ). value_of (take 1 (drop k ws))) at ∙ ap (λ (l : List ℕ). value_of (take 1 l)) (drop-cons ws i 0 (omega (arith, sets-length ws))) ∙ single (get_or ws i 0))

pub one_write : (ws : List ℕ) (i w : ℕ) → i < length (sets_in ws) → w < 2 ^ 64 → Put ws i w (set ws i w)
one_write ws i w h b =
    let at : i * 1 ≡ i = omega arith in
    let done : Put ws i (value_of (w ∷ [])) (set ws (i * 1) w) = sets-put i ws (w ∷ []) h refl fits in
    rw (single w) at (rw at at done)
  where
    fits : Words (w ∷ [])
    fits zero = b
    fits (suc j) = lit< tt
