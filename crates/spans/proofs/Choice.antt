-- Sums by choices: `SumOf` says by a list of choices which sets are summed. It is `Span`, and the test `sum?` decides it.
-- Independence is that no choice but that of none sums to the empty set; it is the same as that no set is a sum of others. Assumes nothing.
use mathlib.Core.Path.{◌≡◌, refl, sym, ap, subst⁻¹, ◌∙◌}
use mathlib.Core.Logic.{◌↔◌, inl, inr}
use mathlib.Core.Bool.{Bool, true, false, ◌||◌, true≢false, or-true}
use mathlib.Core.List.Sublistᴰ
use mathlib.Core.List.{List, [], ◌∷◌, ◌++◌, Sublistᴰ}
use mathlib.Core.List.Memᴰ.{head as here}
use mathlib.Core.List.Memᴰ.{tail as there}
use mathlib.Core.List.{Memᴰ as In}
use Prim.Native.Nat.{ℕ, suc}
use native.Mathlib.Omega.{arith}
use borrow.Author.Tests.{eqb-true, eq-eqb}
use lib.ListN.{length}
use lib.Bits.{bit_xor, xor_comm, xor_self, xor_zero_r}
use Rattle.definitions.specs.Smallest.{chosen, SumOf, sum?}
pub use Rattle.definitions.specs.Smallest.{NoneOfOthers}
use Rattle.definitions.proofs.Tests.{or-one, clashes, not_passed}
use Rattle.spans.proofs.Spans.{Span, none, skip, add, Indep, empty, more, span_zero, span_eq, span_sub, xor_cancel}

-- ---- the two readings of a sum, and the test

-- what a choice sums is in the span
chosen_span : (cs : List Bool) (vs : List ℕ) → Span vs (chosen cs vs)
unfolding chosen
chosen_span cs [] = none refl
chosen_span [] (v ∷ vs) = span_zero (v ∷ vs)
chosen_span (true ∷ cs) (v ∷ vs) = add (span_eq (sym (xor_cancel v (chosen cs vs))) (chosen_span cs vs))
chosen_span (false ∷ cs) (v ∷ vs) = skip (chosen_span cs vs)

-- so a sum is in the span
pub sum→span : {vs : List ℕ} {x : ℕ} → SumOf vs x → Span vs x
sum→span {vs} (cs, l, e) = span_eq e (chosen_span cs vs)

-- and what is in the span is a sum
pub span→sum : {vs : List ℕ} {x : ℕ} → Span vs x → SumOf vs x
unfolding chosen
span→sum (none e) = ([], refl, sym e)
span→sum (skip s) = let (cs, l, e) = span→sum s in (false ∷ cs, ap suc l, e)
span→sum {x = x} (add {v} s) = let (cs, l, e) = span→sum s in (true ∷ cs, ap suc l, ap (bit_xor v) e ∙ xor_cancel v x)

-- where the test passes, x is in the span
test→span : (vs : List ℕ) (x : ℕ) → sum? vs x ≡ true → Span vs x
unfolding sum?
test→span [] x e = none (eqb-true x 0 e)
test→span (v ∷ vs) x e =
    elim (or-one (sum? vs x) (sum? vs (bit_xor v x)) e) [ inl a ↦ skip (test→span vs x a) | inr b ↦ add (test→span vs (bit_xor v x) b) ]

-- and the test passes where x is in the span
span→test : {vs : List ℕ} (x : ℕ) → Span vs x → sum? vs x ≡ true
unfolding sum?
span→test x (none e) = eq-eqb x 0 e
span→test x (skip {v} {vs = vs} s) = ap (λ (b : Bool). b || sum? vs (bit_xor v x)) (span→test x s)
span→test x (add {v} {vs = vs} s) = ap (λ (b : Bool). sum? vs x || b) (span→test (bit_xor v x) s) ∙ or-true (sum? vs x)

-- the test decides the span
pub sum?_span : (vs : List ℕ) (x : ℕ) → (sum? vs x ≡ true) ↔ Span vs x
sum?_span vs x = (test→span vs x, span→test x)

-- the test decides whether x is a sum
pub sum?_test : (vs : List ℕ) (x : ℕ) → (sum? vs x ≡ true) ↔ SumOf vs x
sum?_test vs x = (λ e. span→sum (test→span vs x e), λ s. span→test x (sum→span s))

-- where the test fails, x is no sum
pub sum?-none : (vs : List ℕ) (x : ℕ) → (sum? vs x ≡ false) ↔ (¬ Span vs x)
sum?-none vs x = (λ e s. clashes (span→test x s) e, λ n. not_passed (sum? vs x) (λ e. n (test→span vs x e)))

-- ---- lists and parts of them

-- an element of x ∷ (ls ++ rs) is one of ls ++ x ∷ rs
pub to_middle : {A : Type 0} (ls : List A) (x : A) (rs : List A) (y : A) → In y (x ∷ ls ++ rs) → In y (ls ++ x ∷ rs)
to_middle [] x rs y i = i
to_middle (a ∷ ls) x rs y (here e) = there (to_middle ls x rs y (here e))
to_middle (a ∷ ls) x rs y (there (here e)) = here e
to_middle (a ∷ ls) x rs y (there (there i)) = there (to_middle ls x rs y (there i))

-- and back
pub from_middle : {A : Type 0} (ls : List A) (x : A) (rs : List A) (y : A) → In y (ls ++ x ∷ rs) → In y (x ∷ ls ++ rs)
from_middle [] x rs y i = i
from_middle (a ∷ ls) x rs y (here e) = there (here e)
from_middle (a ∷ ls) x rs y (there i) =
    elim (from_middle ls x rs y i) [ here e ↦ here e | there j ↦ there (there j) ]

-- the elements of a part of a list are elements of the list
pub sub_in : {A : Type 0} {us vs : List A} → Sublistᴰ us vs → (x : A) → In x us → In x vs
sub_in (Sublistᴰ.cons s) x i = there (sub_in s x i)
sub_in (Sublistᴰ.cons-cons e s) x (here q) = here (q ∙ e)
sub_in (Sublistᴰ.cons-cons e s) x (there i) = there (sub_in s x i)
sub_in {A = A} Sublistᴰ.slnil x i = elim i [ ]

-- a list less one element is a part of it
less_one : {A : Type 0} (ls : List A) (x : A) (rs : List A) → Sublistᴰ (ls ++ rs) (ls ++ x ∷ rs)
less_one [] x rs = Sublistᴰ.cons (Sublistᴰ.refl rs)
less_one (a ∷ ls) x rs = Sublistᴰ.cons-cons refl (less_one ls x rs)

-- ---- independence

-- no choice that takes a set sums to the empty set
abbrev pub Independent : List ℕ → Type 0
Independent vs = (cs : List Bool) → length cs ≡ length vs → chosen cs vs ≡ 0 → ¬ In true cs

-- where only the choice of none sums to the empty set, no set is a sum of later ones
independent→indep : (vs : List ℕ) → Independent vs → Indep vs
unfolding chosen
independent→indep [] h = empty
independent→indep (v ∷ vs) h =
    more
    (λ s. let (cs, l, e) = span→sum s in h (true ∷ cs) (ap suc l) (ap (bit_xor v) e ∙ xor_self v) (here refl))
    (independent→indep vs (λ cs l e i. h (false ∷ cs) (ap suc l) e (there i)))

-- and the other way round
indep→independent : {vs : List ℕ} → Indep vs → Independent vs
unfolding chosen
indep→independent empty [] l e i = elim i [ ]
indep→independent empty (c ∷ cs) l e i = omega arith
indep→independent (more n d) [] l e i = elim i [ ]
indep→independent (more {v} {vs} n d) (true ∷ cs) l e i =
    n (span_eq (sym (xor_cancel v (chosen cs vs)) ∙ ap (bit_xor v) e ∙ xor_zero_r v) (chosen_span cs vs))
indep→independent (more n d) (false ∷ cs) l e (here q) = true≢false q
indep→independent (more n d) (false ∷ cs) l e (there i) = indep→independent d cs (omega arith) e i

-- a part of an independent list is independent
pub indep_sub : {us vs : List ℕ} → Sublistᴰ us vs → Indep vs → Indep us
indep_sub Sublistᴰ.slnil d = d
indep_sub (Sublistᴰ.cons s) (more n d) = indep_sub s d
indep_sub (Sublistᴰ.cons-cons e s) (more n d) = more (λ t. n (span_eq e (span_sub (sub_in s) t))) (indep_sub s d)

-- no set of an independent list is a sum of others
pub indep_others : (ls : List ℕ) (x : ℕ) (rs : List ℕ) → Indep (ls ++ x ∷ rs) → ¬ Span (ls ++ rs) x
indep_others [] x rs (more n d) s = n s
indep_others (a ∷ ls) x rs (more n d) (skip s) = indep_others ls x rs d s
indep_others (a ∷ ls) x rs (more n d) (add s) = n (span_sub (to_middle ls x rs) (add (span_eq (xor_comm a x) s)))

-- an element of an independent list may be moved to the front
pub indep_front : (ls : List ℕ) (x : ℕ) (rs : List ℕ) → Indep (ls ++ x ∷ rs) → Indep (x ∷ ls ++ rs)
indep_front ls x rs d = more (indep_others ls x rs d) (indep_sub (less_one ls x rs) d)

-- so none is a sum of others, by choices
indep→others : {vs : List ℕ} → Indep vs → NoneOfOthers vs
indep→others d ls x rs e s = indep_others ls x rs (subst⁻¹ Indep e d) (sum→span s)

-- and where none is a sum of others, none is one of later ones
others→indep : (vs : List ℕ) → NoneOfOthers vs → Indep vs
unfolding chosen
others→indep [] h = empty
others→indep (v ∷ vs) h =
    more (λ s. h [] v vs refl (span→sum s))
    (others→indep vs (λ ls x rs e (cs, l, p). h (v ∷ ls) x rs (ap (λ us. v ∷ us) e) (false ∷ cs, ap suc l, p)))

-- the three readings of independence agree: by choices and by later sets
pub independent_iff_indep : (vs : List ℕ) → Independent vs ↔ Indep vs
independent_iff_indep vs = (independent→indep vs, indep→independent)

-- by others and by later sets
pub others_iff_indep : (vs : List ℕ) → NoneOfOthers vs ↔ Indep vs
others_iff_indep vs = (others→indep vs, indep→others)

-- by choices and by others
pub independent_iff_others : (vs : List ℕ) → Independent vs ↔ NoneOfOthers vs
independent_iff_others vs = (λ h. indep→others (independent→indep vs h), λ h. indep→independent (others→indep vs h))
