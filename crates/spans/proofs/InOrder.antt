-- What is taken of a list in order: it is in that order, and a set of the list is in it exactly if it is no sum of those in it that stand
-- before. There is one such list. Assumes nothing.
use mathlib.Core.Path.{◌≡◌, sym, ap, subst, ◌∙◌}
use mathlib.Core.Logic.{◌↔◌, ⊎_elim}
use mathlib.Core.Bool.{Bool, true, true≢false}
use mathlib.Core.List.Memᴰ
use mathlib.Core.List.{List, [], ◌∷◌, ◌++◌, append_assoc}
use mathlib.Core.List.{Sublistᴰ}
use mathlib.Core.List.Memᴰ.{append_cases as in-append}
use mathlib.Core.List.Memᴰ.{cases_cons as in-cons}
use mathlib.Core.List.{Memᴰ as In}
use Prim.Native.Nat.{ℕ}
use Rattle.definitions.specs.Search.{keep}
use Rattle.definitions.specs.Smallest.{SumOf, taking}
use Rattle.definitions.proofs.Lists.{Sorted, sorted_more, sorted_earlier, sorted_keep, keep_in, in_split, in_last}
use Rattle.definitions.proofs.Sorting.{Order, sorted_ind, sorted_unique}
use Rattle.spans.proofs.Spans.{Indep, span_sub}
use Rattle.spans.proofs.Choice.{sum→span, span→sum, sub_in, indep_others}
use Rattle.spans.proofs.Taking.{run, run-sub, taking_in, taking_indep, taking-keep, taking_prefix}

-- those of a list that stand before s
abbrev pub earlier : (ℕ → ℕ → Bool) → List ℕ → ℕ → List ℕ
earlier b l s = keep (λ t. b t s) l

-- a part of a list in order is in order
pub sorted_sub : {b : ℕ → ℕ → Bool} {l m : List ℕ} → Sublistᴰ l m → Sorted b m → Sorted b l
sorted_sub Sublistᴰ.slnil s = s
sorted_sub (Sublistᴰ.cons p) (sorted_more h s) = sorted_sub p s
sorted_sub {b} (Sublistᴰ.cons-cons e p) (sorted_more h s) =
    sorted_more (λ y i. subst (λ (x : ℕ). b x y ≡ true) (sym e) (h y (sub_in p y i))) (sorted_sub p s)

module _ {b : ℕ → ℕ → Bool} (o : Order b) where
  -- what is taken of a list in order is in order
  pub taking_sorted : {xs : List ℕ} → Sorted b xs → Sorted b (taking [] xs)
  taking_sorted {xs} s = sorted_sub (run-sub (run [] xs)) s

  -- a set that is taken is no sum of those taken that stand before it
  taken_no_sum : (l : List ℕ) → Indep l → (s : ℕ) → In s l → ¬ SumOf (earlier b l s) s
  taken_no_sum l d s i sum =
      let (us, vs, e) = in_split i in
      indep_others us s vs (subst Indep e d) (span_sub (λ t j. others us vs e t ((keep_in (λ u. b u s) t l).0 j)) (sum→span sum))
    where
      others : (us vs : List ℕ) → l ≡ us ++ (s ∷ vs) → (t : ℕ) → In t l × (b t s ≡ true) → In t (us ++ vs)
      others us vs e t (j, less) =
          ⊎_elim (λ k. Memᴰ.append_left vs k)
          (λ k. ⊎_elim (λ q. absurd (true≢false (sym less ∙ ap (λ (x : ℕ). b x s) q ∙ o.irrefl s))) (λ m. Memᴰ.append_right us m) (in-cons k))
          (in-append us (subst (In t) e j))

  -- a set of a list in order that is no sum of those taken before it is taken
  no_sum_taken : (us : List ℕ) (s : ℕ) (vs : List ℕ) → Sorted b (us ++ (s ∷ vs))
      → ¬ SumOf (earlier b (taking [] (us ++ (s ∷ vs))) s) s → In s (taking [] (us ++ (s ∷ vs)))
  no_sum_taken us s vs sorted none =
      let (ws, e) = taking_prefix us (s ∷ vs) in
      let taken_before : (t : ℕ) → In t (taking [] us) → In t (earlier b (taking [] (us ++ (s ∷ vs))) s)
      = λ t i. (keep_in (λ u. b u s) t _).1 (subst (In t) (sym e) (Memᴰ.append_left ws i), sorted_earlier us s vs sorted t (taking_in us t i)) in
      let (zs, q) = taking_prefix (us ++ (s ∷ [])) vs in
      let kept = taking-keep us s (λ sum. none (span→sum (span_sub taken_before (sum→span sum)))) in
      subst (λ l. In s (taking [] l)) (append_assoc us (s ∷ []) vs)
      (subst (In s) (sym q) (Memᴰ.append_left zs (subst (In s) (sym kept) (in_last (taking [] us) s))))

  -- a set is taken exactly if it is of the list and no sum of those taken that stand before it
  pub taking_reads : (xs : List ℕ) → Sorted b xs → (s : ℕ) → In s (taking [] xs) ↔ (In s xs × (¬ SumOf (earlier b (taking [] xs) s) s))
  taking_reads xs sorted s = (λ i. (taking_in xs s i, taken_no_sum (taking [] xs) (taking_indep xs) s i), λ (i, none). placed (in_split i) none)
    where
      placed : (us : List ℕ) × (vs : List ℕ) × (xs ≡ us ++ (s ∷ vs)) → ¬ SumOf (earlier b (taking [] xs) s) s → In s (taking [] xs)
      placed (us, vs, e) none = rw e (no_sum_taken us s vs (rw e at sorted) (rw e at none))

  -- two lists in order of which that holds are one
  pub taken_unique : {xs l m : List ℕ} → Sorted b xs → Sorted b l → Sorted b m
      → ((s : ℕ) → In s l ↔ (In s xs × (¬ SumOf (earlier b l s) s)))
      → ((s : ℕ) → In s m ↔ (In s xs × (¬ SumOf (earlier b m s) s)))
      → l ≡ m
  taken_unique {xs} {l} {m} sorted p q f g =
      sorted_unique o p q (λ s. (λ i. (each s ((f s).0 i).0).0 i, λ i. (each s ((g s).0 i).0).1 i))
    where
      step : (s : ℕ) → In s xs → ((t : ℕ) → In t xs → b t s ≡ true → In t l ↔ In t m) → In s l ↔ In s m
      step s i lower =
          let same : earlier b l s ≡ earlier b m s
          = sorted_unique o (sorted_keep _ p) (sorted_keep _ q) (λ t. (
            λ j. let (k, less) = (keep_in (λ u. b u s) t l).0 j in (keep_in (λ u. b u s) t m).1 ((lower t ((f t).0 k).0 less).0 k, less),
            λ j. let (k, less) = (keep_in (λ u. b u s) t m).0 j in (keep_in (λ u. b u s) t l).1 ((lower t ((g t).0 k).0 less).1 k, less),
          )) in (
            λ j. (g s).1 (i, λ sum. ((f s).0 j).1 (subst (λ vs. SumOf vs s) (sym same) sum)),
            λ j. (f s).1 (i, λ sum. ((g s).0 j).1 (subst (λ vs. SumOf vs s) same sum)),
          )

      each : (s : ℕ) → In s xs → In s l ↔ In s m
      each = sorted_ind o (λ s. In s l ↔ In s m) sorted step
