-- Two rising lists that a map carries to each other, which keeps sums and weights and is one-to-one on what they span, have as many
-- taken sets of each weight. Assumes nothing.
use mathlib.Core.Path.{◌≡◌, refl, sym, ap, ap₂, subst, subst⁻¹, ◌∙◌}
use mathlib.Core.List.Memᴰ
use mathlib.Core.List.Memᴰ.{head as here}
use mathlib.Core.List.Memᴰ.{tail as there}
use mathlib.Core.List.{List, [], ◌∷◌, map, map-map, Memᴰ as In}
use Prim.Native.Nat.{ℕ, ◌≤◌}
use native.Mathlib.Nat.{le_antisymm}
use lib.ListN.{length, length-map}
use lib.Bits.{bit_xor, xor_self, xor_zero_l}
use Rattle.definitions.specs.Label.{occurs}
use Rattle.definitions.specs.Smallest.{taking}
use Rattle.definitions.proofs.Lists.{map_ext}
use Rattle.spans.proofs.Spans.{Span, Indep, none, skip, add, empty, more, each, span_in, span_eq, span_sum, span_sub, xor_cancel, xor_undo}
use Rattle.spans.proofs.Lengths.{same_length}
use Rattle.spans.proofs.Taking.{taking_in, taking_indep}
use Rattle.spans.proofs.Counts.{upto, same-occurs}
use Rattle.spans.proofs.Rising.{Rising}
use Rattle.spans.proofs.Carries.{Additive, Carries}
use Rattle.spans.proofs.Lightest.{taking-most, in_reached, Reached}

-- what holds of the images holds of each set of the list of images
in_map : (f : ℕ → ℕ) (P : ℕ → Type 0) (xs : List ℕ) → ((x : ℕ) → In x xs → P (f x)) → (y : ℕ) → In y (map f xs) → P y
in_map f P [] h y i = absurd (Memᴰ.not-nil i)
in_map f P (x ∷ xs) h y i = each P (h x (here refl)) (in_map f P xs (λ z j. h z (there j))) y i

module _ (f : ℕ → ℕ) (lin : Additive f) where
  -- the empty set goes to the empty set
  map-zero : f 0 ≡ 0
  map-zero = lin 0 0 ∙ xor_self (f 0)

  -- the image of a sum is a sum of images
  pub map_span : {vs : List ℕ} {x : ℕ} → Span vs x → Span (map f vs) (f x)
  map_span (none e) = none (ap f e ∙ map-zero)
  map_span (skip s) = skip (map_span s)
  map_span {x = x} (add {v} s) = add (span_eq (lin v x) (map_span s))

  -- a sum of images is the image of a sum
  pub unmap_span : (vs : List ℕ) {y : ℕ} → Span (map f vs) y → (x : ℕ) × Span vs x × (f x ≡ y)
  unmap_span [] (none e) = (0, none refl, map-zero ∙ sym e)
  unmap_span (v ∷ vs) (skip s) = let (x, t, e) = unmap_span vs s in (x, skip t, e)
  unmap_span (v ∷ vs) {y} (add s) =
      let (x, t, e) = unmap_span vs s in
      (bit_xor v x, add (span_eq (sym (xor_cancel v x)) t), lin v x ∙ ap (bit_xor (f v)) e ∙ xor_cancel (f v) y)

  -- where the images are independent, so are the sets
  pub unmap_indep : (vs : List ℕ) → Indep (map f vs) → Indep vs
  unmap_indep [] empty = empty
  unmap_indep (v ∷ vs) (more n d) = more (λ s. n (map_span s)) (unmap_indep vs d)

  module _ (xs : List ℕ) (kernel : (x : ℕ) → Span xs x → f x ≡ 0 → x ≡ 0) where
    -- where only the empty set goes to the empty set, f is one-to-one
    one_to_one : (x y : ℕ) → Span xs x → Span xs y → f x ≡ f y → x ≡ y
    one_to_one x y s t e =
        sym (xor_undo x y)
        ∙ ap (λ (z : ℕ). bit_xor z y) (kernel (bit_xor x y) (span_sum s t) (lin x y ∙ ap (λ (z : ℕ). bit_xor z (f y)) e ∙ xor_self (f y)))
        ∙ xor_zero_l y

    -- where f is one-to-one, the images of independent sets are independent
    pub map_indep : {vs : List ℕ} → ((x : ℕ) → In x vs → In x xs) → Indep vs → Indep (map f vs)
    map_indep sub empty = empty
    map_indep sub (more {v} {vs} n d) = more clash (map_indep (λ x i. sub x (there i)) d)
      where
        clash : ¬ Span (map f vs) (f v)
        clash s =
            let (x, t, e) = unmap_span vs s in
            n (span_eq (one_to_one x v (span_sub (λ y i. sub y (there i)) t) (span_in (sub v (here refl))) e) t)

    -- an independent list is as long as one that its images span and that spans its images
    pub image_length : (vs : List ℕ) → Indep xs → Indep vs → ((x : ℕ) → In x xs → Span vs (f x)) → ((y : ℕ) → In y vs → Span (map f xs) y)
        → length xs ≡ length vs
    image_length vs d e up down =
        sym (length-map xs f) ∙ same_length (map f xs) vs (map_indep (λ x i. i) d) e (in_map f (Span vs) xs up) down

-- a list of images is the image of a list
pull : (f : ℕ → ℕ) (P : ℕ → Type 0) (bs : List ℕ) → ((b : ℕ) → In b bs → (a : ℕ) × P a × (f a ≡ b))
    → (xs : List ℕ) × ((a : ℕ) → In a xs → P a) × (map f xs ≡ bs)
pull f P [] h = ([], λ a i. absurd (Memᴰ.not-nil i), refl)
pull f P (b ∷ bs) h =
    let (a, p, e) = h b (here refl) in
    let (xs, q, d) = pull f P bs (λ c i. h c (there i)) in
    (a ∷ xs, each P p q, ap₂ ◌∷◌ e d)

-- images weigh what the sets weigh
map-weight : (w u f : ℕ → ℕ) (xs : List ℕ) → ((x : ℕ) → In x xs → u (f x) ≡ w x) → map u (map f xs) ≡ map w xs
map-weight w u f xs h = map-map u f xs ∙ map_ext (λ x. u (f x)) w xs h

module _ (w u f : ℕ → ℕ) (xs ys : List ℕ) (c : Carries w u f xs ys) (rx : Rising w xs) (ry : Rising u ys) where
  -- the images of what is taken of xs are independent sets of ys
  forth : (t : ℕ) → upto t (map w (taking [] xs)) ≤ upto t (map u (taking [] ys))
  forth t =
      subst (λ l. upto t l ≤ upto t (map u (taking [] ys))) (map-weight w u f (taking [] xs) (λ x i. c.weight x (taking_in xs x i)))
      (taking-most u ys ry (map f (taking [] xs)) (map_indep f c.additive xs c.kernel (taking_in xs) (taking_indep xs))
      (in_map f (Reached u ys) (taking [] xs) (λ x i. in_reached u ys (f x) (c.into x (taking_in xs x i)))) t)

  -- what is taken of ys are images of independent sets of xs
  back : (t : ℕ) → upto t (map u (taking [] ys)) ≤ upto t (map w (taking [] xs))
  back t =
      let (zs, sub, e) = pull f (λ x. In x xs) (taking [] ys) (λ y i. c.onto y (taking_in ys y i)) in
      subst (λ l. upto t l ≤ upto t (map w (taking [] xs))) (sym (map-weight w u f zs (λ x i. c.weight x (sub x i))) ∙ ap (map u) e)
      (taking-most w xs rx zs (unmap_indep f c.additive zs (subst⁻¹ Indep e (taking_indep ys))) (λ x i. in_reached w xs x (sub x i)) t)

  -- as many taken sets weigh at most t
  pub invariant_upto : (t : ℕ) → upto t (map w (taking [] xs)) ≡ upto t (map u (taking [] ys))
  invariant_upto t = le_antisymm (forth t) (back t)

  -- and t
  pub invariant_occurs : (t : ℕ) → occurs t (map w (taking [] xs)) ≡ occurs t (map u (taking [] ys))
  invariant_occurs = same-occurs (map w (taking [] xs)) (map u (taking [] ys)) invariant_upto
