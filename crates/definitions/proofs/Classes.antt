-- Things that pairs join get one number: the classes of `classes` are those of being joined, and each is numbered by its least thing.
-- A pair is looked at with the classes of the pairs after it in the list, so every law goes by induction on the list. Assumes nothing.
use mathlib.Core.Path.{◌≡◌, refl, sym, ap, ◌∙◌, subst}
use mathlib.Core.Bool.{false, cond}
use mathlib.Core.List.Memᴰ.{head as first}
use mathlib.Core.List.Memᴰ.{tail as later}
use mathlib.Core.List.{List, [], ◌∷◌, map, Memᴰ as In}
use mathlib.Core.Logic.{◌↔◌, ◌⊎◌, inl, inr}
use Prim.Native.Nat.{ℕ, ◌≤◌, ◌<◌, min, max}
use native.Mathlib.Nat.{min-eq_left, min-eq_right, max-eq_left, max-eq_right}
use native.Mathlib.Omega.{arith}
use borrow.Author.Tests.{eqb-true, eqb-false, eq-eqb, leb-true, leb-false}
use lib.Dec.{eqb, leb}
use lib.ListN.{length, get_or, length-map, get_or-map}
use Rattle.definitions.specs.Basis.{merge, classes}
use Rattle.definitions.proofs.Tests.{by}
use Rattle.definitions.proofs.Lists.{length_all, listed_at}

-- a is joined to b by pairs of es, each gone over either way
pub data Joined (es : List (ℕ × ℕ)) : ℕ → ℕ → Type 0 where
  here : {a : ℕ} → Joined es a a
  forth : {a b c : ℕ} → In (a, b) es → Joined es b c → Joined es a c
  back : {a b c : ℕ} → In (b, a) es → Joined es b c → Joined es a c

-- every pair of es is of things below n
abbrev pub Within : ℕ → List (ℕ × ℕ) → Type 0
Within n es = (e : ℕ × ℕ) → In e es → (e.0 < n) × (e.1 < n)

-- ---- being joined is an equivalence, and more pairs join more

-- through others
pub joined_trans : {es : List (ℕ × ℕ)} {a b c : ℕ} → Joined es a b → Joined es b c → Joined es a c
joined_trans here q = q
joined_trans (forth i p) q = forth i (joined_trans p q)
joined_trans (back i p) q = back i (joined_trans p q)

-- the other way
pub joined_sym : {es : List (ℕ × ℕ)} {a b : ℕ} → Joined es a b → Joined es b a
joined_sym here = here
joined_sym (forth i p) = joined_trans (joined_sym p) (back i here)
joined_sym (back i p) = joined_trans (joined_sym p) (forth i here)

-- with more pairs
pub joined_more : {es fs : List (ℕ × ℕ)} {a b : ℕ} → ((e : ℕ × ℕ) → In e es → In e fs) → Joined es a b → Joined fs a b
joined_more f here = here
joined_more f (forth i p) = forth (f _ i) (joined_more f p)
joined_more f (back i p) = back (f _ i) (joined_more f p)

-- what is equal is joined
pub joined_of_eq : {es : List (ℕ × ℕ)} {a b : ℕ} → a ≡ b → Joined es a b
joined_of_eq {es} {a} e = subst (Joined es a) e here

-- ---- one pair more

-- the number of a class after the classes numbered x and y are made one
unfoldable pub merged : ℕ → ℕ → ℕ → ℕ
merged x y z = cond (eqb z (max x y)) (min x y) z

-- the larger number of the two gives way
pub merged_max : (x y z : ℕ) → z ≡ max x y → merged x y z ≡ min x y
unfolding merged
merged_max x y z e = rw (eq-eqb z (max x y) e)

-- every other number stays
pub merged_other : (x y z : ℕ) → eqb z (max x y) ≡ false → merged x y z ≡ z
unfolding merged
merged_other x y z e = rw e

-- both classes get the smaller number
pub merged_either : (x y z : ℕ) → (z ≡ x) ⊎ (z ≡ y) → merged x y z ≡ min x y
merged_either x y z w =
    by (eqb z (max x y)) (λ e. merged_max x y z (eqb-true z (max x y) e))
    (λ e. merged_other x y z e ∙ smaller w (eqb-false z (max x y) e))
  where
    smaller : (z ≡ x) ⊎ (z ≡ y) → (z ≡ max x y → ⊥) → z ≡ min x y
    smaller (inl q) ne = omega arith
    smaller (inr q) ne = omega arith

-- a class made one with itself stays
pub merged_same : (x y z : ℕ) → x ≡ y → merged x y z ≡ z
merged_same x y z e =
    by (eqb z (max x y)) (λ t. let q = eqb-true z (max x y) t in merged_max x y z q ∙ omega arith) (λ t. merged_other x y z t)

-- no number rises
merged_le : (x y z : ℕ) → merged x y z ≤ z
merged_le x y z =
    by (eqb z (max x y)) (λ e. omega (arith, eqb-true z (max x y) e, merged_max x y z (eqb-true z (max x y) e)))
    (λ e. omega (arith, merged_other x y z e))

-- each thing's number after the merging
get_or-merge : (e : ℕ × ℕ) (l : List ℕ) (i : ℕ) → get_or (merge e l) i 0 ≡ merged (get_or l e.0 0) (get_or l e.1 0) (get_or l i 0)
unfolding merge merged
get_or-merge e l i =
    let f = merged (get_or l e.0 0) (get_or l e.1 0) in
    let z : f 0 ≡ 0 = omega (arith, merged_le (get_or l e.0 0) (get_or l e.1 0) 0) in
    subst (λ (d : ℕ). get_or (map f l) i d ≡ f (get_or l i 0)) z (get_or-map f l i 0)

-- as many things as before
pub length-merge : (e : ℕ × ℕ) (l : List ℕ) → length (merge e l) ≡ length l
unfolding merge
length-merge e l = length-map l _

-- ---- the classes

-- the number of a thing's class
abbrev pub label : ℕ → List (ℕ × ℕ) → ℕ → ℕ
label n es a = get_or (classes n es) a 0

-- with no pairs, a thing's number is itself
pub label_none : (n a : ℕ) → a < n → label n [] a ≡ a
unfolding classes
label_none n a h = listed_at n (λ k. k) a 0 h

-- with a pair more, the classes of its two things are made one
pub label_pair : (n : ℕ) (e : ℕ × ℕ) (es : List (ℕ × ℕ)) (a : ℕ) → label n (e ∷ es) a ≡ merged (label n es e.0) (label n es e.1) (label n es a)
unfolding classes
label_pair n e es a = get_or-merge e (classes n es) a

-- each thing has a number
pub classes-length : (n : ℕ) (es : List (ℕ × ℕ)) → length (classes n es) ≡ n
unfolding classes
classes-length n [] = length_all n (λ k. k)
classes-length n (e ∷ es) = length-merge e (classes n es) ∙ classes-length n es

-- the two things of a pair have one number
pub classes-bond : (n : ℕ) (es : List (ℕ × ℕ)) {a b : ℕ} → In (a, b) es → label n es a ≡ label n es b
classes-bond n (e ∷ es) {a} {b} (first q) =
    label_pair n e es a ∙ merged_either _ _ _ (inl (ap (λ (c : ℕ × ℕ). label n es c.0) q))
    ∙ sym (label_pair n e es b ∙ merged_either _ _ _ (inr (ap (λ (c : ℕ × ℕ). label n es c.1) q)))
classes-bond n (e ∷ es) {a} {b} (later i) = label_pair n e es a ∙ ap (merged _ _) (classes-bond n es i) ∙ sym (label_pair n e es b)
classes-bond n [] {a = a} {b = b} x' = elim x' [ ]

-- so have all that are joined
pub joined_label : (n : ℕ) {es : List (ℕ × ℕ)} {a b : ℕ} → Joined es a b → label n es a ≡ label n es b
joined_label n here = refl
joined_label n {es} (forth i p) = classes-bond n es i ∙ joined_label n p
joined_label n {es} (back i p) = sym (classes-bond n es i) ∙ joined_label n p

-- a thing's number is not above it
pub label_le : (n : ℕ) (es : List (ℕ × ℕ)) (a : ℕ) → a < n → label n es a ≤ a
label_le n [] a h = omega (arith, label_none n a h)
label_le n (e ∷ es) a h = omega (arith, label_pair n e es a, merged_le (label n es e.0) (label n es e.1) (label n es a), label_le n es a h)

-- where x and y are joined, so are the larger and the smaller of them
joined_min : {es : List (ℕ × ℕ)} {x y : ℕ} → Joined es x y → Joined es (max x y) (min x y)
joined_min {es} {x} {y} p =
    by (leb x y)
    (λ e. let h = leb-true x y e in rw (max-eq_right h, min-eq_left h) (joined_sym p))
    (λ e. let h : y ≤ x = omega (arith, leb-false x y e) in rw (max-eq_left h, min-eq_right h) p)

-- each thing is joined to its number
pub to_label : (n : ℕ) (es : List (ℕ × ℕ)) → Within n es → (a : ℕ) → a < n → Joined es a (label n es a)
to_label n [] w a h = joined_of_eq (sym (label_none n a h))
to_label n (e ∷ es) w a h =
    let x = label n es e.0 in
    let y = label n es e.1 in
    let z = label n es a in
    let to : (b : ℕ) → b < n → Joined (e ∷ es) b (label n es b)
    = λ b l. joined_more (λ c i. later i) (to_label n es (λ c i. w c (later i)) b l) in
    let between : Joined (e ∷ es) x y
    = joined_trans (joined_sym (to e.0 (w e (first refl)).0)) (forth (first refl) (to e.1 (w e (first refl)).1)) in
    joined_trans (to a h) (joined_trans
    (by (eqb z (max x y))
    (λ t. joined_trans (joined_of_eq (eqb-true z (max x y) t)) (joined_trans (joined_min between) (joined_of_eq (sym (merged_max x y z (eqb-true z (max x y) t))))))
    (λ t. joined_of_eq (sym (merged_other x y z t))))
    (joined_of_eq (sym (label_pair n e es a))))

-- things have one number where they are joined, and nowhere else
pub classes_joined : (n : ℕ) (es : List (ℕ × ℕ)) → Within n es → (a b : ℕ) → a < n → b < n
    → (get_or (classes n es) a 0 ≡ get_or (classes n es) b 0) ↔ Joined es a b
classes_joined n es w a b h l =
    (λ e. joined_trans (to_label n es w a h) (joined_trans (joined_of_eq e) (joined_sym (to_label n es w b l))), joined_label n)

-- x is the least thing that a is joined to, and its own number
pub record Least (n : ℕ) (es : List (ℕ × ℕ)) (a x : ℕ) : Type 0 where
  pub joined : Joined es a x
  pub low : x ≤ a
  pub own : label n es x ≡ x
  pub least : (b : ℕ) → b < n → Joined es a b → x ≤ b

-- the number of a class is its least thing
pub classes-least : (n : ℕ) (es : List (ℕ × ℕ)) → Within n es → (a : ℕ) → a < n → Least n es a (get_or (classes n es) a 0)
classes-least n es w a h =
    let j = to_label n es w a h in
    record {
      joined = j;
      low = label_le n es a h;
      own = sym (joined_label n j);
      least = λ b l p. omega (arith, joined_label n p, label_le n es b l);
    }
