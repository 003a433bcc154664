-- The sets that a list of sets spans: the sums of some of them. `Span` says so by the list's first set, for proofs by induction;
-- lists of which no set is a sum of later ones. Assumes nothing.
use mathlib.Core.Path.{◌≡◌, refl, sym, ap, ap₂, subst, subst⁻¹, ◌∙◌}
use mathlib.Core.List.Memᴰ.{head as here}
use mathlib.Core.List.Memᴰ.{tail as there}
use mathlib.Core.List.{List, [], ◌∷◌, Memᴰ as In}
use Prim.Native.Nat.{ℕ}
use lib.Bits.{bit_xor, xor_comm, xor_self, xor_zero_r}
use Rattle.sets.proofs.Laws.{xor_assoc}

-- what holds of the head and of each element of the tail holds of each element
pub each : {A : Type 0} (P : A → Type 0) {x : A} {xs : List A} → P x → ((y : A) → In y xs → P y) → (y : A) → In y (x ∷ xs) → P y
each P p h y (here e) = subst⁻¹ P e p
each P p h y (there i) = h y i

-- ---- sums of two and three sets

-- a set added twice is gone
pub xor_cancel : (x y : ℕ) → bit_xor x (bit_xor x y) ≡ y
xor_cancel x y = sym (xor_assoc x x y) ∙ ap (λ (z : ℕ). bit_xor z y) (xor_self x)

-- and so on the other side
pub xor_undo : (x y : ℕ) → bit_xor (bit_xor x y) y ≡ x
xor_undo x y = xor_assoc x y y ∙ ap (bit_xor x) (xor_self y) ∙ xor_zero_r x

-- two summands change places
pub xor-left_comm : (x y z : ℕ) → bit_xor x (bit_xor y z) ≡ bit_xor y (bit_xor x z)
xor-left_comm x y z = sym (xor_assoc x y z) ∙ ap (λ (s : ℕ). bit_xor s z) (xor_comm x y) ∙ xor_assoc y x z

-- what two sums share is gone from their sum
pub xor_cross : (v x y : ℕ) → bit_xor (bit_xor v x) (bit_xor v y) ≡ bit_xor x y
xor_cross v x y = xor_assoc v x (bit_xor v y) ∙ ap (bit_xor v) (xor-left_comm x v y) ∙ xor_cancel v (bit_xor x y)

-- ---- the span

-- x is a sum of some sets of the list: of none; of some of the tail; of the head and some of the tail
pub data Span : List ℕ → ℕ → Type 0 where
  none : {x : ℕ} → x ≡ 0 → Span [] x
  skip : {v x : ℕ} {vs : List ℕ} → Span vs x → Span (v ∷ vs) x
  add : {v x : ℕ} {vs : List ℕ} → Span vs (bit_xor v x) → Span (v ∷ vs) x

-- no set is a sum of ones after it
pub data Indep : List ℕ → Type 0 where
  empty : Indep []
  more : {v : ℕ} {vs : List ℕ} → ¬ Span vs v → Indep vs → Indep (v ∷ vs)

-- the empty set is a sum of none
pub span_zero : (vs : List ℕ) → Span vs 0
span_zero [] = none refl
span_zero (v ∷ vs) = skip (span_zero vs)

-- the same set is in the span
pub span_eq : {vs : List ℕ} {x y : ℕ} → x ≡ y → Span vs x → Span vs y
span_eq {vs} e s = subst (Span vs) e s

-- the sum of two sums is a sum
pub span_sum : {vs : List ℕ} {x y : ℕ} → Span vs x → Span vs y → Span vs (bit_xor x y)
span_sum (none p) (none q) = none (ap₂ bit_xor p q)
span_sum (skip a) (skip b) = skip (span_sum a b)
span_sum {x = x} {y = y} (skip a) (add {v} b) = add (span_eq (xor-left_comm x v y) (span_sum a b))
span_sum {x = x} {y = y} (add {v} a) (skip b) = add (span_eq (xor_assoc v x y) (span_sum a b))
span_sum {x = x} {y = y} (add {v} a) (add b) = skip (span_eq (xor_cross v x y) (span_sum a b))

-- the sets of a list are in its span
pub span_in : {x : ℕ} {vs : List ℕ} → In x vs → Span vs x
span_in (here {x = v} {xs = vs} e) = add (span_eq (sym (ap (bit_xor v) e ∙ xor_self v)) (span_zero vs))
span_in (there i) = skip (span_in i)

-- a span that holds the sets of vs holds the span of vs
pub span_trans : {us vs : List ℕ} {x : ℕ} → ((v : ℕ) → In v vs → Span us v) → Span vs x → Span us x
span_trans {us} h (none e) = span_eq (sym e) (span_zero us)
span_trans h (skip s) = span_trans (λ u i. h u (there i)) s
span_trans {x = x} h (add {v} s) = span_eq (xor_cancel v x) (span_sum (h v (here refl)) (span_trans (λ u i. h u (there i)) s))

-- the span of a part of a list is in the list's, whatever the order
pub span_sub : {us vs : List ℕ} {x : ℕ} → ((v : ℕ) → In v vs → In v us) → Span vs x → Span us x
span_sub h = span_trans (λ v i. span_in (h v i))
