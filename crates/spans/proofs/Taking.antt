-- What `taking` takes of a list: each set that is no sum of those taken before it. It is a part of the list, no set of it is a sum of
-- others, and it spans what the list spans. Assumes nothing.
use mathlib.Core.Path.{◌≡◌, refl, sym, ap, subst, subst⁻¹, ◌∙◌}
use mathlib.Core.Logic.{◌↔◌}
use mathlib.Core.List.{List, [], ◌∷◌, ◌++◌, append-nil, Sublistᴰ}
use mathlib.Core.List.Memᴰ
use mathlib.Core.List.Memᴰ.{head as here}
use mathlib.Core.List.Memᴰ.{tail as there}
use mathlib.Core.List.{Memᴰ as In}
use Prim.Native.Nat.{ℕ, ◌+◌, ◌≤◌, ◌<◌}
use native.Mathlib.Numerals.{add-one}
use native.Mathlib.Omega.{arith}
use lib.ListN.{length, take, drop, get_or, take-append-drop, length-append}
use lib.Seq.{take-suc}
use Rattle.definitions.specs.Smallest.{SumOf, sum?, taking}
use Rattle.definitions.proofs.Tests.{by}
use Rattle.spans.proofs.Spans.{Span, Indep, empty, more, span_in, span_eq, span_sub}
use Rattle.spans.proofs.Choice.{sum→span, span→sum, sum?_span, sum?-none, from_middle, to_middle, sub_in, indep_front}
use Rattle.spans.proofs.Exchange.{exchange}

-- ---- a run, step by step

-- ys is taken of xs, where acc were taken before
pub data Run : List ℕ → List ℕ → List ℕ → Type 0 where
  done : {acc : List ℕ} → Run acc [] []
  leave : {acc xs ys : List ℕ} {x : ℕ} → Span acc x → Run acc xs ys → Run acc (x ∷ xs) ys
  keep : {acc xs ys : List ℕ} {x : ℕ} → ¬ Span acc x → Run (x ∷ acc) xs ys → Run acc (x ∷ xs) (x ∷ ys)

-- a set that is a sum is left
taking-sum : (acc : List ℕ) (x : ℕ) (xs : List ℕ) → Span acc x → taking acc (x ∷ xs) ≡ taking acc xs
unfolding taking
taking-sum acc x xs s = rw ((sum?_span acc x).1 s, taking)

-- a set that is no sum is taken
taking_no_sum : (acc : List ℕ) (x : ℕ) (xs : List ℕ) → ¬ Span acc x → taking acc (x ∷ xs) ≡ x ∷ taking (x ∷ acc) xs
unfolding taking
taking_no_sum acc x xs n = rw ((sum?-none acc x).1 n, taking)

-- of nothing nothing is taken
pub taking-nil : (acc : List ℕ) → taking acc [] ≡ []
unfolding taking
taking-nil acc = refl

-- `taking` is a run
pub run : (acc xs : List ℕ) → Run acc xs (taking acc xs)
run acc [] = rw (taking-nil acc) done
run acc (x ∷ xs) =
    by (sum? acc x)
    (λ e. let s = (sum?_span acc x).0 e in rw (taking-sum acc x xs s) (leave s (run acc xs)))
    (λ e. let n = (sum?-none acc x).0 e in rw (taking_no_sum acc x xs n) (keep n (run (x ∷ acc) xs)))

-- there is one run only
pub run_unique : {acc xs ys : List ℕ} → Run acc xs ys → ys ≡ taking acc xs
run_unique (done {acc}) = sym (taking-nil acc)
run_unique (leave {acc} {xs} {x = x} s r) = run_unique r ∙ sym (taking-sum acc x xs s)
run_unique (keep {acc} {xs} {x = x} n r) = ap (λ l. x ∷ l) (run_unique r) ∙ sym (taking_no_sum acc x xs n)

-- what is taken is a part of the list
pub run-sub : {acc xs ys : List ℕ} → Run acc xs ys → Sublistᴰ ys xs
run-sub done = Sublistᴰ.slnil
run-sub (leave s r) = Sublistᴰ.cons (run-sub r)
run-sub (keep n r) = Sublistᴰ.cons-cons refl (run-sub r)

-- it is independent, also of what was taken before
pub run_indep : {acc xs ys : List ℕ} → Run acc xs ys → Indep acc → Indep (ys ++ acc)
run_indep done d = d
run_indep (leave s r) d = run_indep r d
run_indep (keep {acc} {xs} {ys} {x} n r) d = indep_front ys x acc (run_indep r (more n d))

-- with what was taken before it spans each set of the list
pub run_span : {acc xs ys : List ℕ} → Run acc xs ys → (x : ℕ) → In x xs → Span (ys ++ acc) x
run_span {ys = ys} (leave s r) x (here e) = span_eq (sym e) (span_sub (λ y i. Memᴰ.append_right ys i) s)
run_span (leave s r) x (there i) = run_span r x i
run_span (keep n r) x (here e) = span_in (here e)
run_span (keep {acc} {xs} {ys} {x = y} n r) x (there i) = span_sub (from_middle ys y acc) (run_span r x i)
run_span (done {acc = acc}) x x10 = elim x10 [ ]

-- of a longer list at least as much is taken, and it begins alike
run_prefix : {acc ys : List ℕ} (xs : List ℕ) → Run acc xs ys → (zs : List ℕ) → (ws : List ℕ) × Run acc (xs ++ zs) (ys ++ ws)
run_prefix {acc} xs done zs = (taking acc zs, run acc zs)
run_prefix xs (leave {xs = xs'} s r) zs = let (ws, q) = run_prefix xs' r zs in (ws, leave s q)
run_prefix xs (keep {xs = xs'} n r) zs = let (ws, q) = run_prefix xs' r zs in (ws, keep n q)

-- one more set at the end is left where it is a sum
run_leave : {acc xs ys : List ℕ} → Run acc xs ys → (x : ℕ) → Span (ys ++ acc) x → Run acc (xs ++ x ∷ []) ys
run_leave done x s = leave s done
run_leave (leave t r) x s = leave t (run_leave r x s)
run_leave (keep {acc} {xs} {ys} {x = y} n r) x s = keep n (run_leave r x (span_sub (to_middle ys y acc) s))

-- and is taken where it is none
run-keep : {acc xs ys : List ℕ} → Run acc xs ys → (x : ℕ) → ¬ Span (ys ++ acc) x → Run acc (xs ++ x ∷ []) (ys ++ x ∷ [])
run-keep done x h = keep h done
run-keep (leave t r) x h = leave t (run-keep r x h)
run-keep (keep {acc} {xs} {ys} {x = y} n r) x h = keep n (run-keep r x (λ s. h (span_sub (from_middle ys y acc) s)))

-- ---- what is taken of a whole list

-- a list followed by nothing spans what it spans
span_end : (ys : List ℕ) (x : ℕ) → Span (ys ++ []) x ↔ Span ys x
span_end ys x = (subst (λ l. Span l x) (append-nil ys), subst⁻¹ (λ l. Span l x) (append-nil ys))

-- what is taken is a part of the list, in its order
pub taking-sub : (xs : List ℕ) → Sublistᴰ (taking [] xs) xs
taking-sub xs = run-sub (run [] xs)

-- each set that is taken is one of the list
pub taking_in : (xs : List ℕ) (x : ℕ) → In x (taking [] xs) → In x xs
taking_in xs = sub_in (taking-sub xs)

-- what is taken is independent
pub taking_indep : (xs : List ℕ) → Indep (taking [] xs)
taking_indep xs = subst Indep (append-nil (taking [] xs)) (run_indep (run [] xs) empty)

-- each set of the list is a sum of sets taken
pub taking_holds : (xs : List ℕ) (x : ℕ) → In x xs → Span (taking [] xs) x
taking_holds xs x i = (span_end (taking [] xs) x).0 (run_span (run [] xs) x i)

-- what is taken of a list is the beginning of what is taken of a longer one
pub taking_prefix : (xs zs : List ℕ) → (ws : List ℕ) × (taking [] (xs ++ zs) ≡ taking [] xs ++ ws)
taking_prefix xs zs = let (ws, q) = run_prefix xs (run [] xs) zs in (ws, sym (run_unique q))

-- so what is taken of the first n is the beginning of what is taken of all
pub taking-take : (n : ℕ) (xs : List ℕ) → (ws : List ℕ) × (taking [] xs ≡ taking [] (take n xs) ++ ws)
taking-take n xs =
    let (ws, e) = taking_prefix (take n xs) (drop n xs) in
    (ws, ap (taking []) (sym (take-append-drop n xs)) ∙ e)

-- of sums of the sets vs no more are taken than vs has
pub taking-length-le : (xs vs : List ℕ) → ((x : ℕ) → In x xs → SumOf vs x) → length (taking [] xs) ≤ length vs
taking-length-le xs vs h = exchange vs (taking [] xs) (λ x i. sum→span (h x (taking_in xs x i))) (taking_indep xs)

-- where that many are taken of the first n, the rest adds nothing
pub taking_full : (n : ℕ) (xs vs : List ℕ) → ((x : ℕ) → In x xs → SumOf vs x) → length vs ≤ length (taking [] (take n xs)) → taking [] xs ≡ taking [] (take n xs)
taking_full n xs vs h l =
    let (ws, e) = taking-take n xs in
    let most = taking-length-le xs vs h in
    e ∙ ap (λ l. taking [] (take n xs) ++ l) (none_left ws (omega (arith, ap length e, length-append (taking [] (take n xs)) ws))) ∙ append-nil (taking [] (take n xs))
  where
    none_left : (ws : List ℕ) → length ws ≡ 0 → ws ≡ []
    none_left [] e = refl
    none_left (w ∷ ws) e = absurd (omega arith)

-- ---- one more set at the end, as a loop goes

-- it is left where it is a sum of those taken
pub taking_leave : (xs : List ℕ) (x : ℕ) → SumOf (taking [] xs) x → taking [] (xs ++ x ∷ []) ≡ taking [] xs
taking_leave xs x s = sym (run_unique (run_leave (run [] xs) x ((span_end (taking [] xs) x).1 (sum→span s))))

-- it is taken, as the last, where it is not
pub taking-keep : (xs : List ℕ) (x : ℕ) → ¬ SumOf (taking [] xs) x → taking [] (xs ++ x ∷ []) ≡ taking [] xs ++ x ∷ []
taking-keep xs x h = sym (run_unique (run-keep (run [] xs) x (λ s. h (span→sum ((span_end (taking [] xs) x).0 s)))))

-- the same for the set at place i of a list
module _ (xs : List ℕ) (i : ℕ) (l : i < length xs) where
  -- the first i + 1 sets are the first i and the set at place i
  next : take (i + 1) xs ≡ take i xs ++ get_or xs i 0 ∷ []
  next = ap (λ (n : ℕ). take n xs) (add-one i) ∙ take-suc xs i 0 l

  -- it is left where it is a sum of those taken of the first i
  pub taking_leave_at : SumOf (taking [] (take i xs)) (get_or xs i 0) → taking [] (take (i + 1) xs) ≡ taking [] (take i xs)
  taking_leave_at s = ap (taking []) next ∙ taking_leave (take i xs) (get_or xs i 0) s

  -- it is taken where it is not
  pub taking-keep-at : ¬ SumOf (taking [] (take i xs)) (get_or xs i 0) → taking [] (take (i + 1) xs) ≡ taking [] (take i xs) ++ get_or xs i 0 ∷ []
  taking-keep-at h = ap (taking []) next ∙ taking-keep (take i xs) (get_or xs i 0) h
