-- The laws of exclusive or on tests. Assumes nothing.
use mathlib.Core.Path.{◌≡◌, refl, sym, ap, ◌∙◌}
use mathlib.Core.Bool.{Bool, true, false, ◌&&◌, ◌||◌, xor, true≢false}
pub use Rattle.sets.proofs.Laws.{test_xor_assoc as xor_assoc}

-- exclusive or with false changes nothing
pub xor-false : (a : Bool) → xor a false ≡ a
unfolding xor
xor-false true = refl
xor-false false = refl

-- on either side
pub false-xor : (a : Bool) → xor false a ≡ a
unfolding xor
false-xor true = refl
false-xor false = refl

-- a test differs nowhere from itself
pub xor_self : (a : Bool) → xor a a ≡ false
unfolding xor
xor_self true = refl
xor_self false = refl

-- the order of the two does not matter
pub xor_comm : (a b : Bool) → xor a b ≡ xor b a
unfolding xor
xor_comm true true = refl
xor_comm true false = refl
xor_comm false true = refl
xor_comm false false = refl

-- so, by grouping three, two of them may change places
pub xor-left_comm : (a b c : Bool) → xor a (xor b c) ≡ xor b (xor a c)
xor-left_comm a b c = sym (xor_assoc a b c) ∙ ap (λ (x : Bool). xor x c) (xor_comm a b) ∙ xor_assoc b a c

-- what is taken twice is not there
pub xor_cancel : (a b : Bool) → xor a (xor a b) ≡ b
xor_cancel a b = sym (xor_assoc a a b) ∙ ap (λ (x : Bool). xor x b) (xor_self a) ∙ false-xor b

-- sorts and cancels
pub ruleset sums = (xor_assoc, xor_comm, xor-left_comm, xor_self, xor_cancel, xor-false, false-xor)

-- two tests that differ nowhere are one
pub xor-eq : (a b : Bool) → xor a b ≡ false → a ≡ b
unfolding xor
xor-eq true true e = refl
xor-eq true false e = absurd (true≢false e)
xor-eq false true e = absurd (true≢false e)
xor-eq false false e = refl

-- conjunction goes over exclusive or, from either side
pub and_xor : (a b c : Bool) → a && xor b c ≡ xor (a && b) (a && c)
and_xor true b c = refl
and_xor false b c = sym (xor_self false)

-- and so does one from the right
pub xor-and : (a b c : Bool) → xor a b && c ≡ xor (a && c) (b && c)
unfolding xor
xor-and true true true = refl
xor-and true true false = refl
xor-and true false true = refl
xor-and true false false = refl
xor-and false true true = refl
xor-and false true false = refl
xor-and false false c = refl

-- where not both hold, one of the two is exactly one of the two
pub or-xor : (a b : Bool) → (a ≡ true → b ≡ true → ⊥) → a || b ≡ xor a b
or-xor true true h = absurd (h refl refl)
or-xor true false h = sym (xor-false true)
or-xor false b h = sym (false-xor b)
