-- Lists of sets that share no bond: only the empty set is both a sum of sets of the one and a sum of sets of the other. So what is taken of
-- each by itself is together independent, and has of each size as many sets as what is taken of both. Assumes nothing.
use mathlib.Core.Path.{◌≡◌, refl, sym, ap, ap₂, subst⁻¹, ◌∙◌}
use mathlib.Core.Logic.{◌↔◌, ◌⊎◌, ⊎_elim, ⊎_map}
use mathlib.Core.Bool.{true, false, xor}
use mathlib.Core.List.Memᴰ
use mathlib.Core.List.{List, [], ◌∷◌, ◌++◌, map, map-append}
use mathlib.Core.List.Memᴰ.{append_cases as in-append}
use mathlib.Core.List.Memᴰ.{head as here}
use mathlib.Core.List.Memᴰ.{tail as there}
use mathlib.Core.List.{Memᴰ as In}
use Prim.Native.Nat.{ℕ, ◌+◌, ◌≤◌}
use native.Mathlib.Nat.{le_antisymm}
use lib.Bits.{bit_xor, xor_zero_l}
use lib.Dec.{leb}
use Rattle.sets.specs.Bits.{has, size, meet}
use Rattle.sets.proofs.Laws.{empty as no-members, xor_assoc, has-xor, has-zero}
use Rattle.sets.proofs.Size.{xor-zero}
use Rattle.sets.proofs.Members.{meet_of}
use Rattle.definitions.specs.Search.{sort}
use Rattle.definitions.specs.AllRings.{before}
use Rattle.definitions.specs.Label.{occurs}
use Rattle.definitions.specs.Smallest.{taking}
use Rattle.definitions.proofs.Tests.{by, clashes, not_passed}
use Rattle.definitions.proofs.Lists.{keep_append}
use Rattle.definitions.proofs.Sorting.{sort_weak, sort_in, before_order, occurs-append}
use Rattle.spans.proofs.Spans.{Span, none, skip, add, Indep, empty, more, span_in, span_eq, span_sum, span_sub, xor_cancel, xor-left_comm}
use Rattle.spans.proofs.Taking.{taking_in, taking_indep}
use Rattle.spans.proofs.Counts.{light, upto, same-occurs}
use Rattle.spans.proofs.Rising.{Rising}
use Rattle.spans.proofs.Lightest.{in_reached, light_most, taking_light, taking-most}
use Rattle.spans.proofs.Smallest.{weak_rising}

-- ---- what two lists span

-- a sum of sets of two lists is one of the first and one of the second
span_split : (us : List ℕ) {vs : List ℕ} {x : ℕ} → Span (us ++ vs) x → (y : ℕ) × Span us y × Span vs (bit_xor y x)
span_split [] {x = x} s = (0, none refl, span_eq (sym (xor_zero_l x)) s)
span_split (u ∷ us) (skip s) = let (y, a, b) = span_split us s in (y, skip a, b)
span_split (u ∷ us) {x = x} (add s) =
    let (y, a, b) = span_split us s in
    (bit_xor u y, add (span_eq (sym (xor_cancel u y)) a), span_eq (xor-left_comm y u x ∙ sym (xor_assoc u y x)) b)

-- two independent lists that have only the empty set for a common sum are independent together
indep_append : {us vs : List ℕ} → Indep us → Indep vs → ((x : ℕ) → Span us x → Span vs x → x ≡ 0) → Indep (us ++ vs)
indep_append empty e h = e
indep_append {vs = vs} (more {v = u} {vs = us} n d) e h = more clash (indep_append d e (λ x s. h x (skip s)))
  where
    clash : ¬ Span (us ++ vs) u
    clash s =
        let (y, a, b) = span_split us s in
        n (span_eq (xor-zero y u (h (bit_xor y u) (span_sum (skip a) (span_in (here refl))) b)) a)

-- a member of a sum is a member of one of the sets
span_member : {vs : List ℕ} {x : ℕ} → Span vs x → (k : ℕ) → has x k ≡ true → (v : ℕ) × In v vs × (has v k ≡ true)
unfolding xor
span_member (none e) k h = clashes h (ap (λ (s : ℕ). has s k) e ∙ has-zero k)
span_member (skip s) k h = let (v, i, m) = span_member s k h in (v, there i, m)
span_member {x = x} (add {v = u} s) k h =
    by (has u k)
    (λ m. (u, here refl, m))
    (λ m. let (v, i, l) = span_member s k (has-xor u x k ∙ ap₂ xor m h) in (v, there i, l))

-- lists whose sets share no bond have only the empty set for a common sum
span_apart : {us vs : List ℕ} → ((u v : ℕ) → In u us → In v vs → meet u v ≡ false) → (x : ℕ) → Span us x → Span vs x → x ≡ 0
span_apart h x s t =
    no-members x
    (λ k. not_passed (has x k) (λ m.
    let (u, i, a) = span_member s k m in
    let (v, j, b) = span_member t k m in
    clashes (meet_of u v k a b) (h u v i j)))

-- ---- what is taken of two lists

-- zs has the sets of xs and of ys, which share no bond, and all three rise
module _ (w : ℕ → ℕ) (xs ys zs : List ℕ) (rx : Rising w xs) (ry : Rising w ys) (rz : Rising w zs) (of : (z : ℕ) → In z zs ↔ (In z xs ⊎ In z ys))
    (apart : (x y : ℕ) → In x xs → In y ys → meet x y ≡ false) where
  -- what is taken of each by itself
  abbrev each_taken : List ℕ
  each_taken = taking [] xs ++ taking [] ys

  -- it is independent, so zs has as many
  forth : (t : ℕ) → upto t (map w each_taken) ≤ upto t (map w (taking [] zs))
  forth =
      taking-most w zs rz each_taken
      (indep_append (taking_indep xs) (taking_indep ys) (span_apart (λ x y i j. apart x y (taking_in xs x i) (taking_in ys y j))))
      (λ b i. in_reached w zs b ((of b).1 (⊎_map (taking_in xs b) (taking_in ys b) (in-append (taking [] xs) i))))

  -- and up to each weight it spans the sets of zs, so zs has no more
  back : (t : ℕ) → upto t (map w (taking [] zs)) ≤ upto t (map w each_taken)
  back t =
      light_most w (taking [] zs) each_taken (taking_indep zs) t
      (λ b i l. subst⁻¹ (λ us. Span us b) (keep_append (λ x. leb (w x) t) (taking [] xs) (taking [] ys))
      (⊎_elim
      (λ k. span_sub (λ v. Memᴰ.append_left (light w t (taking [] ys))) (taking_light w xs rx t b k l))
      (λ k. span_sub (λ v. Memᴰ.append_right (light w t (taking [] xs))) (taking_light w ys ry t b k l))
      ((of b).0 (taking_in zs b i))))

  -- of each weight as many are taken of zs as of xs and of ys
  pub apart-occurs : (t : ℕ) → occurs t (map w (taking [] zs)) ≡ occurs t (map w (taking [] xs)) + occurs t (map w (taking [] ys))
  apart-occurs t =
      same-occurs (map w (taking [] zs)) (map w each_taken) (λ s. le_antisymm (back s) (forth s)) t
      ∙ ap (occurs t) (map-append w (taking [] xs) (taking [] ys))
      ∙ occurs-append t (map w (taking [] xs)) (map w (taking [] ys))

-- ---- in the order of all rings

-- each list sorted in that order is in rising size
pub sort-rising : (l : List ℕ) → Rising size (sort before l)
sort-rising l = weak_rising (sort_weak before_order l)

-- of two lists whose sets share no bond, as many sets of each size are taken together as of the first by itself and of the second by itself
pub taken_apart : (xs ys : List ℕ) → ((x y : ℕ) → In x xs → In y ys → meet x y ≡ false)
    → (z : ℕ) → occurs z (map size (taking [] (sort before (xs ++ ys)))) ≡ occurs z (map size (taking [] (sort before xs))) + occurs z (map size (taking [] (sort before ys)))
taken_apart xs ys apart =
    apart-occurs size (sort before xs) (sort before ys) (sort before (xs ++ ys)) (sort-rising xs) (sort-rising ys) (sort-rising (xs ++ ys))
    (λ z. (
      λ i. ⊎_map (sort_in before xs z).1 (sort_in before ys z).1 (in-append xs ((sort_in before (xs ++ ys) z).0 i)),
      λ s. (sort_in before (xs ++ ys) z).1 (⊎_elim (λ i. Memᴰ.append_left ys ((sort_in before xs z).0 i)) (λ i. Memᴰ.append_right xs ((sort_in before ys z).0 i)) s),
    ))
    (λ x y i j. apart x y ((sort_in before xs x).0 i) ((sort_in before ys y).0 j))
