-- Bytes and the number that they spell, high byte first. Assumes nothing.
use mathlib.Core.Path.{◌≡◌, refl, ap, ◌∙◌}
use mathlib.Core.List.{List, [], ◌∷◌, ◌++◌}
use Prim.Native.Nat.{ℕ, zero, suc, ◌+◌, ◌*◌, ◌/◌, ◌%◌, ◌^◌, ◌<◌}
use native.Mathlib.Nat.{pow-suc, div-lt_iff_lt-mul, div-add-mod'}
use native.Mathlib.Omega.{arith}
use Rattle.definitions.specs.Label.{bytes_of}

-- the number that bytes spell after a number
unfoldable pub value_from : ℕ → List ℕ → ℕ
value_from x [] = x
value_from x (b ∷ l) = value_from (x * 256 + b) l

-- the number that bytes spell
abbrev pub value_of : List ℕ → ℕ
value_of l = value_from 0 l

-- one byte more
value_snoc : (l : List ℕ) (x b : ℕ) → value_from x (l ++ (b ∷ [])) ≡ value_from x l * 256 + b
unfolding value_from
value_snoc [] x b = refl
value_snoc (y ∷ l) x b = value_snoc l (x * 256 + y) b

-- a number that fits n bytes is spelt by them
pub value_bytes : (n x : ℕ) → x < 256 ^ n → value_of (bytes_of n x) ≡ x
unfolding value_from bytes_of
value_bytes zero x h = omega arith
value_bytes (suc n) x h =
    value_snoc (bytes_of n (x / 256)) 0 (x % 256)
    ∙ ap (λ (y : ℕ). y * 256 + x % 256) (value_bytes n (x / 256) ((div-lt_iff_lt-mul (omega arith)).1 (rw (pow-suc 256 n) at h)))
    ∙ div-add-mod' x 256
