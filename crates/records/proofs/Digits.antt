-- Numbers in decimal and bytes in hex: the digits that the libraries print are those of the definition; how many there are.
-- Assumes nothing.
use mathlib.Core.Path.{◌≡◌, refl, sym, ap, ◌∙◌}
use mathlib.Core.List.{List, [], ◌∷◌, ◌++◌}
use Prim.Native.Nat.{ℕ, zero, suc, ◌+◌, ◌*◌, ◌/◌, ◌%◌, ◌^◌, ◌<◌, ◌≤◌}
use native.Mathlib.Nat.{pow-suc}
use native.Mathlib.Omega.{arith}
use lib.Dec.{eqb, ltb}
use lib.ListN.{length, get_or}
use borrow.Author.Tests.{eqb-true, lt-ltb, le-ltb, ltb-true, ltb-false}
use Rattle.std.specs.Fmt.{decimal as printed}
use Rattle.std.proofs.lemmas.Fmt.{AppendsLastDigit, decimal_from_appends, length-decimal-le_succ}
use Rattle.hex.specs.Hex.{lower_digits, encode_with, encode_lower}
use Rattle.definitions.specs.Search.{every}
use Rattle.definitions.specs.Text.{glyph, decimal_in, decimal, hex}
use Rattle.definitions.proofs.Tests.{by, every-at}
use Rattle.definitions.proofs.Lists.{length_snoc}

-- ---- decimal

-- one digit
in_small : (n x : ℕ) → x < 10 → decimal_in (suc n) x ≡ glyph x ∷ []
unfolding decimal_in
in_small n x h = rw (lt-ltb x 10 h, decimal_in)

-- the last digit after the others
in_large : (n x : ℕ) → 10 ≤ x → decimal_in (suc n) x ≡ decimal_in n (x / 10) ++ (glyph (x % 10) ∷ [])
unfolding decimal_in
in_large n x h = rw (le-ltb x 10 h, decimal_in)

-- a digit below ten
low : (d : ℕ) → d < 10 → 48 + d ≡ glyph d
low d h = rw (lt-ltb d 10 h, glyph)

-- each step of the definition appends the last digit
appends : AppendsLastDigit decimal_in
appends = record {
  one = λ k n h. in_small k n h ∙ ap (λ (d : ℕ). d ∷ []) (sym (low n h));
  more = λ k n h. in_large k n h ∙ ap (λ (d : ℕ). decimal_in k (n / 10) ++ (d ∷ [])) (sym (low (n % 10) (omega arith)));
}

-- so it is what a number is printed as
pub printed_decimal : (x : ℕ) → x < 2 ^ 64 → printed x ≡ decimal x
unfolding decimal
printed_decimal x h = sym (decimal_from_appends decimal_in appends (x + 1) x h (length-decimal-le_succ x h))

-- ---- how many digits there are

-- below 10 ^ k, where k is not 0, at most k digits
in_most : (k n x : ℕ) → 0 < k → x < 10 ^ k → length (decimal_in n x) ≤ k
unfolding decimal_in
in_most k zero x h l = omega arith
in_most zero (suc n) x h l = absurd (omega arith)
in_most (suc k) (suc n) x h l =
    by (ltb x 10)
    (λ e. rw (in_small n x (ltb-true x 10 e)) (omega arith))
    (λ e. let g : 10 ≤ x = ltb-false x 10 e in
    rw (in_large n x g, length_snoc (decimal_in n (x / 10)) (glyph (x % 10))) (omega (arith, in_most k n (x / 10) (some k l g) (omega (arith, pow-suc 10 k)))))
  where
    some : (j : ℕ) → x < 10 ^ suc j → 10 ≤ x → 0 < j
    some zero l g = absurd (omega arith)
    some (suc j) l g = omega arith

-- so a number below 10 ^ k has at most k digits
pub decimal-most : (k x : ℕ) → 0 < k → x < 10 ^ k → length (decimal x) ≤ k
unfolding decimal
decimal-most k x h l = in_most k (x + 1) x h l

-- ---- hex

-- the library's table has the digits of the definition
glyph_at : (d : ℕ) → d < 16 → get_or lower_digits d 0 ≡ glyph d
unfolding every
glyph_at d h = eqb-true _ _ (every-at 16 (λ d. eqb (get_or lower_digits d 0) (glyph d)) refl d h)

-- so the library's hex of bytes is that of the definition
pub encoded-hex : (l : List ℕ) → ((i : ℕ) → get_or l i 0 < 256) → encode_lower l ≡ hex l
unfolding hex encode_with
encoded-hex [] h = refl
encoded-hex (b ∷ l) h =
    let low : b < 256 = h 0 in
    rw (glyph_at (b / 16) (omega arith), glyph_at (b % 16) (omega arith)) (ap (λ (t : List ℕ). glyph (b / 16) ∷ glyph (b % 16) ∷ t) (encoded-hex l (λ i. h (suc i))))

-- two digits a byte
pub length-hex : (l : List ℕ) → length (hex l) ≡ 2 * length l
unfolding hex
length-hex [] = refl
length-hex (b ∷ l) = omega (arith, length-hex l)
