-- What is taken of a rising list is a lightest basis: up to each weight it has as many sets as any independent list whose sets are
-- sums of sets of the list no heavier than themselves. So it weighs no more than any other such basis, and one that weighs as
-- much has as many sets of each weight. Assumes nothing.
use mathlib.Core.Path.{◌≡◌, sym, subst, subst₂, ◌∙◌}
use mathlib.Core.List.Memᴰ
use mathlib.Core.List.Memᴰ.{head as here}
use mathlib.Core.List.Memᴰ.{tail as there}
use mathlib.Core.List.{List, [], ◌++◌, append-nil, map, Memᴰ as In}
use Prim.Native.Nat.{ℕ, ◌≤◌}
use native.Mathlib.Nat.{le_refl, le_trans, le_antisymm}
use lib.Dec.{leb}
use lib.ListN.{length, length-map}
use borrow.Author.Tests.{le-leb, leb-true}
use Rattle.definitions.specs.Search.{total}
use Rattle.definitions.specs.Label.{occurs}
use Rattle.definitions.specs.Smallest.{taking}
use Rattle.definitions.proofs.Lists.{sorted_more, keep_in, keep-take}
use Rattle.spans.proofs.Spans.{Span, Indep, span_in, span_eq, span_sub, span_trans}
use Rattle.spans.proofs.Choice.{from_middle, indep_sub}
use Rattle.spans.proofs.Exchange.{exchange}
use Rattle.spans.proofs.Lengths.{same_length}
use Rattle.spans.proofs.Taking.{Run, done, leave, keep, run, taking_in, taking_indep, taking_holds}
use Rattle.spans.proofs.Rising.{Rising}
use Rattle.spans.proofs.Counts.{light, upto, length_light, keep-sub, lighter, same_upto, same-occurs}

module _ (w : ℕ → ℕ) where
  -- a set of weight at most t is among the light ones
  in_light : (t : ℕ) (xs : List ℕ) (x : ℕ) → In x xs → w x ≤ t → In x (light w t xs)
  in_light t xs x i l = (keep_in (λ x. leb (w x) t) x xs).1 (i, le-leb (w x) t l)

  -- and the light ones are such
  pub from_light : (t : ℕ) (xs : List ℕ) (x : ℕ) → In x (light w t xs) → In x xs × (w x ≤ t)
  from_light t xs x i = let r = (keep_in (λ x. leb (w x) t) x xs).0 i in (r.0, leb-true (w x) t r.1)

  -- an independent list whose sets up to weight t are sums of such sets of another has no more of them than the other
  pub light_most : (bs cs : List ℕ) → Indep bs → (t : ℕ) → ((b : ℕ) → In b bs → w b ≤ t → Span (light w t cs) b) → upto t (map w bs) ≤ upto t (map w cs)
  light_most bs cs d t h =
      subst₂ ◌≤◌ (length_light w t bs) (length_light w t cs)
      (exchange (light w t cs) (light w t bs) (λ b i. let (j, l) = from_light t bs b i in h b j l) (indep_sub (keep-sub (λ x. leb (w x) t) bs) d))

  -- what is taken up to weight t spans, with what was taken before, the sets up to weight t
  run_light : {acc xs ys : List ℕ} → Run acc xs ys → Rising w xs → (t x : ℕ) → In x xs → w x ≤ t → Span (light w t ys ++ acc) x
  run_light {ys = ys} (leave s r) (sorted_more h d) t x (here e) l = span_eq (sym e) (span_sub (λ y i. Memᴰ.append_right (light w t ys) i) s)
  run_light (leave s r) (sorted_more h d) t x (there i) l = run_light r d t x i l
  run_light {acc} {ys = ys} (keep n r) (sorted_more h d) t x (here e) l = span_in (Memᴰ.append_left acc (in_light t ys x (here e) l))
  run_light (keep {acc} {xs} {ys} {x = y} n r) (sorted_more h d) t x (there i) l =
      rw (keep-take (λ x. leb (w x) t) y ys (le-leb (w y) t (le_trans (leb-true (w y) (w x) (h x i)) l)))
      (span_sub (from_middle (light w t ys) y acc) (run_light r d t x i l))
  run_light (done {acc = acc}) _ t x x19 l = elim x19 [ ]

  -- b is a sum of sets of xs that are no heavier than b
  abbrev pub Reached : List ℕ → ℕ → Type 0
  Reached xs b = Span (light w (w b) xs) b

  -- each set of xs is one
  pub in_reached : (xs : List ℕ) (b : ℕ) → In b xs → Reached xs b
  in_reached xs b i = span_in (in_light (w b) xs b i (le_refl (w b)))

  -- a basis of what xs spans, each set of which is a sum of sets of xs no heavier than itself
  pub record Basis (xs bs : List ℕ) : Type 0 where
    pub indep : Indep bs
    pub reached : (b : ℕ) → In b bs → Reached xs b
    pub spans : (x : ℕ) → In x xs → Span bs x

  -- an independent list of sets of xs that spans them all
  pub basis_of_lem : (xs bs : List ℕ) → Indep bs → ((b : ℕ) → In b bs → In b xs) → ((x : ℕ) → In x xs → Span bs x) → Basis xs bs
  basis_of_lem xs bs d sub h = record { indep = d; reached = λ b i. in_reached xs b (sub b i); spans = h }

  -- each set that xs reaches is a sum of those taken
  reached_holds : (xs : List ℕ) (b : ℕ) → Reached xs b → Span (taking [] xs) b
  reached_holds xs b r = span_trans (λ x i. taking_holds xs x (from_light (w b) xs x i).0) r

  -- every basis has as many sets
  pub basis-length : (xs bs : List ℕ) → Basis xs bs → length bs ≡ length (taking [] xs)
  basis-length xs bs b =
      same_length bs (taking [] xs) b.indep (taking_indep xs)
      (λ x i. reached_holds xs x (b.reached x i))
      (λ x i. b.spans x (taking_in xs x i))

  -- no basis weighs less
  pub record Lightest (xs bs : List ℕ) : Type 0 where
    pub basis : Basis xs bs
    pub least : (cs : List ℕ) → Basis xs cs → total (map w bs) ≤ total (map w cs)

  module _ (xs : List ℕ) (rising : Rising w xs) where
    -- what is taken up to weight t spans the sets up to weight t
    pub taking_light : (t x : ℕ) → In x xs → w x ≤ t → Span (light w t (taking [] xs)) x
    taking_light t x i l = subst (λ l. Span l x) (append-nil (light w t (taking [] xs))) (run_light (run [] xs) rising t x i l)

    -- up to each weight as many are taken as any independent list has
    pub taking-most : (bs : List ℕ) → Indep bs → ((b : ℕ) → In b bs → Reached xs b) → (t : ℕ) → upto t (map w bs) ≤ upto t (map w (taking [] xs))
    taking-most bs d reached t =
        light_most bs (taking [] xs) d t
        (λ b i l. span_trans (λ x k. let (m, n) = from_light (w b) xs x k in taking_light t x m (le_trans n l)) (reached b i))

    module _ (bs : List ℕ) (basis : Basis xs bs) where
      most : (t : ℕ) → upto t (map w bs) ≤ upto t (map w (taking [] xs))
      most = taking-most bs basis.indep basis.reached

      long : length (map w (taking [] xs)) ≡ length (map w bs)
      long = length-map (taking [] xs) w ∙ sym (basis-length xs bs basis) ∙ sym (length-map bs w)

      -- what is taken weighs no more than any basis
      pub taking-least : total (map w (taking [] xs)) ≤ total (map w bs)
      taking-least = lighter (map w (taking [] xs)) (map w bs) most long

      -- a basis that weighs no more has as many sets up to each weight
      pub lightest_upto : total (map w bs) ≤ total (map w (taking [] xs)) → (t : ℕ) → upto t (map w (taking [] xs)) ≡ upto t (map w bs)
      lightest_upto l = same_upto (map w (taking [] xs)) (map w bs) most long (le_antisymm taking-least l)

      -- and as many of each weight
      pub lightest_occurs : total (map w bs) ≤ total (map w (taking [] xs)) → (t : ℕ) → occurs t (map w (taking [] xs)) ≡ occurs t (map w bs)
      lightest_occurs l = same-occurs (map w (taking [] xs)) (map w bs) (lightest_upto l)
