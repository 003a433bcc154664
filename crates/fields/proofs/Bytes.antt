-- The bytes of numbers, high byte first: how many they are, those that the library has, and those of a list. Assumes nothing.
use mathlib.Core.Path.{◌≡◌, refl, sym, ap, ap₂, ◌∙◌}
use mathlib.Core.List.{List, [], ◌∷◌, ◌++◌, append_assoc, append-nil}
use Prim.Native.Nat.{ℕ, zero, suc, ◌+◌, ◌-◌, ◌*◌, ◌/◌, ◌%◌, ◌^◌, ◌≤◌}
use native.Mathlib.Nat.{zero-add, div-div-eq-div-mul, pow-succ'}
use native.Mathlib.Omega.{arith}
use lib.ListN.{length, get_or, take, drop, length-append}
use lib.Seq.{take-suc, take_all}
use Rattle.std.specs.Int.{bytes_high_first, byte_at}
use Rattle.definitions.specs.Search.{gather}
use Rattle.definitions.specs.Label.{bytes_of, bytes_of_all}
use Rattle.definitions.proofs.Lists.{length_snoc}

-- n bytes are n
pub length-bytes_of : (n x : ℕ) → length (bytes_of n x) ≡ n
unfolding bytes_of
length-bytes_of zero x = refl
length-bytes_of (suc n) x = length_snoc (bytes_of n (x / 256)) (x % 256) ∙ omega (arith, length-bytes_of n (x / 256))

-- they are what the library has as the lowest n bytes
pub high-first_is : (n x : ℕ) → bytes_high_first n x ≡ bytes_of n x
unfolding bytes_of
high-first_is zero x = refl
high-first_is (suc n) x = snoc n x ∙ ap (λ (l : List ℕ). l ++ (x % 256 ∷ [])) (high-first_is n (x / 256))
  where
    -- a byte of a number is the byte below of the number less its low byte
    down : (k x : ℕ) → byte_at (suc k) x ≡ byte_at k (x / 256)
    down zero x = refl
    down (suc k) x = ap (λ (y : ℕ). y % 256) (ap (λ (y : ℕ). x / y) (pow-succ' 256 (suc k)) ∙ sym (div-div-eq-div-mul x 256 (256 ^ suc k)))

    snoc : (n x : ℕ) → bytes_high_first (suc n) x ≡ bytes_high_first n (x / 256) ++ (x % 256 ∷ [])
    snoc zero x = refl
    snoc (suc n) x = ap₂ ◌∷◌ (down n x) (snoc n x)

-- of the library's eight bytes the last n are the number's
pub high-first_last : (n x : ℕ) {l : List ℕ} → n ≤ 8 → l ≡ bytes_high_first 8 x → take (8 - (8 - n)) (drop (8 - n) l) ≡ bytes_of n x
high-first_last n x h e =
    ap (λ (y : List ℕ). take (8 - (8 - n)) (drop (8 - n) y)) (e ∙ ap (λ (k : ℕ). bytes_high_first k x) {x = 8} {y = 8 - n + n} (omega arith))
    ∙ ap (take (8 - (8 - n))) (cut (8 - n) n ∙ high-first_is n x)
    ∙ take_all (8 - (8 - n)) (bytes_of n x) (omega (arith, length-bytes_of n x))
  where
    cut : (k n : ℕ) → drop k (bytes_high_first (k + n) x) ≡ bytes_high_first n x
    cut zero n = ap (λ (m : ℕ). bytes_high_first m x) (zero-add n)
    cut (suc k) n = ap (λ (m : ℕ). drop (suc k) (bytes_high_first m x)) {x = suc k + n} {y = suc (k + n)} (omega arith) ∙ cut k n

-- a list of numbers has n bytes for each
pub length-bytes_of_all : (n : ℕ) (l : List ℕ) → length (bytes_of_all n l) ≡ length l * n
unfolding bytes_of_all
length-bytes_of_all n [] = omega arith
length-bytes_of_all n (x ∷ l) = length-append (bytes_of n x) (bytes_of_all n l) ∙ omega (arith, length-bytes_of n x, length-bytes_of_all n l)

-- they are gathered from those of each
pub bytes_of_all-gather : (n : ℕ) (l : List ℕ) → bytes_of_all n l ≡ gather (length l) (λ i. bytes_of n (get_or l i 0))
unfolding bytes_of_all gather
bytes_of_all-gather n l = ap (bytes_of_all n) (sym (take_all (length l) l (omega arith))) ∙ first (length l) (omega arith)
  where
    snoc : (l : List ℕ) (x : ℕ) → bytes_of_all n (l ++ (x ∷ [])) ≡ bytes_of_all n l ++ bytes_of n x
    snoc [] x = append-nil (bytes_of n x)
    snoc (y ∷ l) x = ap (λ (t : List ℕ). bytes_of n y ++ t) (snoc l x) ∙ sym (append_assoc (bytes_of n y) (bytes_of_all n l) (bytes_of n x))

    first : (k : ℕ) → k ≤ length l → bytes_of_all n (take k l) ≡ gather k (λ i. bytes_of n (get_or l i 0))
    first zero h = refl
    first (suc k) h =
        ap (bytes_of_all n) (take-suc l k 0 h)
        ∙ snoc (take k l) (get_or l k 0)
        ∙ ap (λ (t : List ℕ). t ++ bytes_of n (get_or l k 0)) (first k (omega arith))
