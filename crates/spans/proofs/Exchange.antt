-- The exchange bound: an independent list of sums of vs is no longer than vs. A sum that needs the first set of vs serves as a
-- pivot: it is dropped, and added to the other sums that need that set, so that none needs it any more. Assumes nothing.
use mathlib.Core.Path.{◌≡◌, refl, sym, ap}
use mathlib.Core.Logic.{◌⊎◌, inl, inr}
use mathlib.Core.List.Memᴰ
use mathlib.Core.List.Memᴰ.{head as here}
use mathlib.Core.List.Memᴰ.{tail as there}
use mathlib.Core.List.{List, [], ◌∷◌, Memᴰ as In}
use Prim.Native.Nat.{ℕ, suc, ◌≤◌}
use native.Mathlib.Omega.{arith}
use lib.ListN.{length}
use lib.Bits.{bit_xor}
use Rattle.spans.proofs.Spans.{Span, none, skip, add, Indep, empty, more, each, span_zero, span_in, span_eq, span_sum, span_trans, xor_cross, xor_undo}

-- ws with the first set v eliminated by a pivot, which is dropped
record Pivoted (v : ℕ) (vs ws : List ℕ) : Type 0 where
  pivot : ℕ
  list : List ℕ
  needs : Span vs (bit_xor v pivot)
  of : Span ws pivot
  low : (x : ℕ) → In x list → Span vs x
  from : (x : ℕ) → In x list → Span ws x
  indep : Indep list
  long : length ws ≡ suc (length list)

-- either no set of ws needs v, or one serves as a pivot
reduce : (v : ℕ) (vs ws : List ℕ) → ((x : ℕ) → In x ws → Span (v ∷ vs) x) → Indep ws → ((x : ℕ) → In x ws → Span vs x) ⊎ Pivoted v vs ws
reduce v vs [] h empty = inl (λ x i. absurd (Memᴰ.not-nil i))
reduce v vs (w ∷ ws) h (more n d) = step (reduce v vs ws (λ x i. h x (there i)) d) (h w (here refl))
  where
    push : Pivoted v vs ws → (x : ℕ) → Span vs x → (Span ws x → Span ws w) → Span (w ∷ ws) x → Pivoted v vs (w ∷ ws)
    push p x s back q =
        record {
          pivot = p.pivot;
          list = x ∷ p.list;
          needs = p.needs;
          of = skip p.of;
          low = each (Span vs) s p.low;
          from = each (Span (w ∷ ws)) q (λ y i. skip (p.from y i));
          indep = more (λ t. n (back (span_trans p.from t))) p.indep;
          long = ap suc p.long;
        }

    step : ((x : ℕ) → In x ws → Span vs x) ⊎ Pivoted v vs ws → Span (v ∷ vs) w → ((x : ℕ) → In x (w ∷ ws) → Span vs x) ⊎ Pivoted v vs (w ∷ ws)
    step (inl all) (skip s) = inl (each (Span vs) s all)
    step (inl all) (add s) =
        inr (record { pivot = w; list = ws; needs = s; of = span_in (here refl); low = all; from = λ x i. span_in (there i); indep = d; long = refl })
    step (inr p) (skip s) = inr (push p w s (λ t. t) (span_in (here refl)))
    step (inr p) (add s) =
        inr
        (push p (bit_xor w p.pivot)
        (span_eq (xor_cross v w p.pivot) (span_sum s p.needs))
        (λ t. span_eq (xor_undo w p.pivot) (span_sum t p.of))
        (span_sum (span_in (here refl)) (skip p.of)))

-- an independent list in the span of vs is no longer than vs
pub exchange : (vs ws : List ℕ) → ((x : ℕ) → In x ws → Span vs x) → Indep ws → length ws ≤ length vs
exchange [] [] h d = omega arith
exchange [] (w ∷ ws) h (more n d) = absurd (elim (h w (here refl)) [ none e ↦ n (span_eq (sym e) (span_zero ws)) ])
exchange (v ∷ vs) ws h d =
    elim (reduce v vs ws h d) [
      | inl all ↦ (let l = exchange vs ws all d in omega arith)
      | inr p ↦ (let l = exchange vs p.list p.low p.indep in omega (arith, p.long))
    ]
