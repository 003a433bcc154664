-- Whether a set is a sum of those taken, by elimination. `kept` has at place k the empty set or a set whose lowest member is k, and
-- spans what the sets taken span. From a set x the kept set at its lowest member is subtracted, so that its lowest member rises, as
-- long as there is one. Where nothing is left, x is a sum of sets taken. Where something is left, it is none, since the lowest
-- member of a sum of kept sets has a kept set; what is left is kept at its lowest member. Assumes nothing.
use mathlib.Core.Path.{◌≡◌, refl, sym, ap, ap₂, subst, subst₂, subst⁻¹, ◌∙◌}
use mathlib.Core.Logic.{◌↔◌, ◌≢◌, ◌⊎◌, inl, inr}
use mathlib.Core.Bool.{Bool, true, false, xor}
use mathlib.Core.List.Memᴰ
use mathlib.Core.List.{List, [], ◌∷◌, ◌++◌, Memᴰ as In}
use Prim.Native.Nat.{ℕ, suc, ◌+◌, ◌^◌, ◌≤◌, ◌<◌}
use native.Mathlib.Decide.{dec_lt, ℕ_discrete}
use native.Mathlib.Omega.{arith}
use borrow.Author.Tests.{eqb-true, eqb-false}
use lib.Bits.{bit_xor, xor_self, xor_zero_r}
use lib.Dec.{eqb}
use lib.ListN.{length, get_or, set, get_or-eq_default}
use lib.Seq.{get_or-set_same, get_or-set_other}
use Rattle.sets.specs.Bits.{has, IsNext}
use Rattle.sets.proofs.Laws.{xor_assoc, has-xor, has-zero, has_above, empty}
use Rattle.definitions.specs.Smallest.{SumOf}
use Rattle.definitions.proofs.Tests.{clashes}
use Rattle.definitions.proofs.Lists.{get_or_in, in_get_or, in_snoc, in_last}
use Rattle.spans.specs.Elimination.{Lowest, Rows, Left, Remainder, Kept}
use Rattle.spans.proofs.Spans.{Span, none, skip, add, span_zero, span_eq, span_in, span_sum, span_sub, span_trans, xor_cancel, xor_undo}
use Rattle.spans.proofs.Choice.{sum→span, span→sum}

-- ---- the lowest member

-- a set has one lowest member
pub lowest_unique : {x j k : ℕ} → Lowest x j → Lowest x k → j ≡ k
lowest_unique {x} {j} {k} a b = go (dec_lt j k) (dec_lt k j)
  where
    go : Dec (j < k) → Dec (k < j) → j ≡ k
    go (yes l) d = clashes a.member (b.none_below j l)
    go (no l) (yes m) = clashes b.member (a.none_below k m)
    go (no l) (no m) = omega arith

-- the next member from a place below which there is none is the lowest
pub lowest_next : {x k : ℕ} (m from : ℕ) → ((j : ℕ) → j < from → has x j ≡ false) → IsNext m x from k → k < m → Lowest x k
lowest_next {x} {k} m from low n l = record { member = n.member l; none_below = λ j h. go j (dec_lt j from) h }
  where
    go : (j : ℕ) → Dec (j < from) → j < k → has x j ≡ false
    go j (yes b) h = low j b
    go j (no b) h = n.none j (omega arith) h

-- where there is no next member from such a place, the set is empty
pub nothing_next : {x k : ℕ} (m from : ℕ) → ((j : ℕ) → j < from → has x j ≡ false) → IsNext m x from k → x < 2 ^ m → m ≤ k → x ≡ 0
nothing_next {x} {k} m from low n b l = empty x (λ j. go j (dec_lt j from) (dec_lt j m))
  where
    go : (j : ℕ) → Dec (j < from) → Dec (j < m) → has x j ≡ false
    go j (yes h) d = low j h
    go j (no h) (yes i) = n.none j (omega arith) (omega arith)
    go j (no h) (no i) = has_above m j b (omega arith)

-- the first member is the lowest
pub lowest_first : {x k : ℕ} (m : ℕ) → IsNext m x 0 k → k < m → Lowest x k
lowest_first m n l = lowest_next m 0 (λ j h. absurd (omega arith)) n l

-- and where there is none, the set is empty
pub nothing-first : {x k : ℕ} (m : ℕ) → IsNext m x 0 k → x < 2 ^ m → m ≤ k → x ≡ 0
nothing-first m n b l = nothing_next m 0 (λ j h. absurd (omega arith)) n b l

-- a set is not empty that has a lowest member
pub lowest_some : {x k : ℕ} → Lowest x k → x ≢ 0
lowest_some {x} {k} l e = clashes l.member (ap (λ (s : ℕ). has s k) e ∙ has-zero k)

-- two sets of one lowest member: their sum has no member so low
pub lowest_rises : {x v k : ℕ} → Lowest x k → Lowest v k → (j : ℕ) → j < k + 1 → has (bit_xor x v) j ≡ false
unfolding xor
lowest_rises {x} {v} {k} a b j l = has-xor x v j ∙ go (ℕ_discrete j k)
  where
    go : Dec (j ≡ k) → xor (has x j) (has v j) ≡ false
    go (yes e) = ap₂ xor (ap (has x) e ∙ a.member) (ap (has v) e ∙ b.member)
    go (no n) = ap₂ xor (a.none_below j (omega arith)) (b.none_below j (omega arith))

-- a set with no member so low leaves the lowest member as it is
lowest_stays : {v k : ℕ} (y : ℕ) → Lowest v k → ((j : ℕ) → j < k + 1 → has y j ≡ false) → Lowest (bit_xor v y) k
unfolding xor
lowest_stays {v} {k} y a h =
    record {
      member = has-xor v y k ∙ ap₂ xor a.member (h k (omega arith));
      none_below = λ j l. has-xor v y j ∙ ap₂ xor (a.none_below j l) (h j (omega arith));
    }

-- ---- sums of kept sets

-- at each place stands the empty set, or a set whose lowest member is the place; places are counted from m
abbrev RowsFrom : ℕ → List ℕ → Type 0
RowsFrom m vs = (i : ℕ) → get_or vs i 0 ≢ 0 → Lowest (get_or vs i 0) (m + i)

-- x is empty, or has its lowest member at a place where a set stands
abbrev AtRow : ℕ → List ℕ → ℕ → Type 0
AtRow m vs x = (x ≡ 0) ⊎ ((i : ℕ) × (get_or vs i 0 ≢ 0) × Lowest x (m + i))

-- the lowest member of the same set is the same
lowest_eq : {x y j k : ℕ} → x ≡ y → j ≡ k → Lowest x j → Lowest y k
lowest_eq p q l = subst₂ Lowest p q l

-- the places after the first are counted from m + 1
rows-later : (m v : ℕ) (vs : List ℕ) → RowsFrom m (v ∷ vs) → RowsFrom (suc m) vs
rows-later m v vs h i n = lowest_eq refl (omega arith) (h (suc i) n)

-- a place among the later ones is a place
at-later : (m v : ℕ) (vs : List ℕ) (x : ℕ) → AtRow (suc m) vs x → AtRow m (v ∷ vs) x
at-later m v vs x (inl e) = inl e
at-later m v vs x (inr (i, n, l)) = inr (suc i, n, lowest_eq refl (omega arith) l)

-- the lowest member of the first set is that of its sum with later ones
at_first : (m v : ℕ) (vs : List ℕ) (x : ℕ) → Lowest v m → AtRow (suc m) vs (bit_xor v x) → Lowest x m
at_first m v vs x l (inl e) = lowest_eq (sym (xor_zero_r v) ∙ ap (bit_xor v) (sym e) ∙ xor_cancel v x) refl l
at_first m v vs x l (inr (i, n, k)) = lowest_eq (xor_cancel v x) refl (lowest_stays (bit_xor v x) l (λ j b. k.none_below j (omega arith)))

-- a sum of kept sets is empty, or has its lowest member at a place where a set stands
sum_lowest : (m : ℕ) (vs : List ℕ) → RowsFrom m vs → {x : ℕ} → Span vs x → AtRow m vs x
sum_lowest m [] h (none e) = inl e
sum_lowest m (v ∷ vs) h {x} (skip s) = at-later m v vs x (sum_lowest (suc m) vs (rows-later m v vs h) s)
sum_lowest m (v ∷ vs) h {x} (add s) = go (ℕ_discrete v 0) (sum_lowest (suc m) vs (rows-later m v vs h) s)
  where
    go : Dec (v ≡ 0) → AtRow (suc m) vs (bit_xor v x) → AtRow m (v ∷ vs) x
    go (yes z) r = at-later m v vs x (subst (AtRow (suc m) vs) (ap (λ (u : ℕ). bit_xor u x) z) r)
    go (no n) r = inr (0, n, lowest_eq refl (omega arith) (at_first m v vs x (lowest_eq refl (omega arith) (h 0 n)) r))

-- ---- what is left of a set x

-- at the start all of x is left
pub left-start : (vs : List ℕ) (x : ℕ) → Left vs x x
left-start vs x = span→sum (span_eq (sym (xor_self x)) (span_zero vs))

-- a sum of the sets vs is subtracted from what is left
left_less : {vs : List ℕ} {v : ℕ} (x rest : ℕ) → Span vs v → Left vs x rest → Left vs x (bit_xor rest v)
left_less {v = v} x rest s l = span→sum (span_eq (xor_assoc x rest v) (span_sum (sum→span l) s))

-- the set at a place is a sum
span_place : (l : List ℕ) (k : ℕ) → Span l (get_or l k 0)
span_place l k = go (dec_lt k (length l))
  where
    go : Dec (k < length l) → Span l (get_or l k 0)
    go (yes h) = span_in (get_or_in l k 0 h)
    go (no h) = span_eq (sym (get_or-eq_default l 0 (omega arith))) (span_zero l)

-- a kept set is subtracted: x and what is left still differ by a sum of kept sets
pub left_step : (kept : List ℕ) (k x rest : ℕ) → Left kept x rest → Left kept x (bit_xor rest (get_or kept k 0))
left_step kept k x rest l = left_less x rest (span_place kept k) l

-- on the way: rest is left, and k is its lowest member, or m where nothing is left of members below m
pub record Reducing (m : ℕ) (kept : List ℕ) (x rest k : ℕ) : Type 0 where
  pub left : Left kept x rest
  pub within : k ≤ m
  pub lowest : k < m → Lowest rest k
  pub nothing : m ≤ k → rest ≡ 0

-- what is left and its next member from a place below which there is none are on the way
reducing : (m : ℕ) (kept : List ℕ) (x rest from k : ℕ) → Left kept x rest → rest < 2 ^ m → ((j : ℕ) → j < from → has rest j ≡ false) → IsNext m rest from k
    → Reducing m kept x rest k
reducing m kept x rest from k l b low n =
    record {
      left = l;
      within = n.within;
      lowest = λ h. lowest_next m from low n h;
      nothing = λ h. nothing_next m from low n b h;
    }

-- at the start, from x's lowest member
pub reducing_start : (m : ℕ) (kept : List ℕ) (x k : ℕ) → x < 2 ^ m → IsNext m x 0 k → Reducing m kept x x k
reducing_start m kept x k b n = reducing m kept x x 0 k (left-start kept x) b (λ j l. absurd (omega arith)) n

module _ {m : ℕ} {kept : List ℕ} {x rest k : ℕ} (r : Reducing m kept x rest k) where
  module _ (h : k < m) {v : ℕ} {t : Bool} (e : v ≡ get_or kept k 0) (q : t ≡ eqb v 0) where
    -- a step: the set kept at k is subtracted, and the lowest member is looked for above k
    pub reducing_step : Rows kept → t ≡ false → {y j : ℕ} → y ≡ bit_xor rest v → y < 2 ^ m → IsNext m y (k + 1) j → Reducing m kept x y j
    reducing_step rows some {y} {j} d b next =
        reducing m kept x y (k + 1) j
        (subst⁻¹ (Left kept x) less (left_step kept k x rest r.left))
        b
        (λ i l. ap (λ (s : ℕ). has s i) less ∙ lowest_rises (r.lowest h) (rows k (λ z. eqb-false v 0 (sym q ∙ some) (e ∙ z))) i l)
        next
      where
        less : y ≡ bit_xor rest (get_or kept k 0)
        less = d ∙ ap (bit_xor rest) e

    -- the end where no set is kept at k
    pub reducing_stop : t ≡ true → Remainder kept x rest
    reducing_stop gone = record {
      left = r.left;
      free = λ j l. ap (λ (i : ℕ). get_or kept i 0) (lowest_unique l (r.lowest h)) ∙ sym e ∙ eqb-true v 0 (sym q ∙ gone);
    }

  -- the end where nothing is left
  pub reducing_end : m ≤ k → Remainder kept x rest
  reducing_end h = record { left = r.left; free = λ j l. absurd (lowest_some l (r.nothing h)) }

-- ---- what is kept

-- what holds at each place holds of each set of a list
each-place : (P : ℕ → Type 0) (l : List ℕ) → ((k : ℕ) → P (get_or l k 0)) → (v : ℕ) → In v l → P v
each-place P l h v i = let r = in_get_or 0 i in subst P r.2 (h r.0)

-- the sums of what is kept are the sums of what is taken
pub kept-sums : {kept taken : List ℕ} → Kept kept taken → (x : ℕ) → SumOf kept x ↔ SumOf taken x
kept-sums {kept} {taken} h x = (
  λ s. span→sum (span_trans (each-place (Span taken) kept (λ k. sum→span (h.down k))) (sum→span s)),
  λ s. span→sum (span_trans (λ v i. sum→span (h.up v i)) (sum→span s)),
)

-- nothing is taken where the empty set stands at every place
pub kept-none : (kept : List ℕ) → ((k : ℕ) → k < length kept → get_or kept k 0 ≡ 0) → Kept kept []
kept-none kept h =
    record {
      rows = λ k n. absurd (n (zero-at k (dec_lt k (length kept))));
      up = λ v i. absurd (Memᴰ.not-nil i);
      down = λ k. span→sum (none (zero-at k (dec_lt k (length kept))));
    }
  where
    zero-at : (k : ℕ) → Dec (k < length kept) → get_or kept k 0 ≡ 0
    zero-at k (yes l) = h k l
    zero-at k (no l) = get_or-eq_default kept 0 (omega arith)

module _ {kept taken : List ℕ} {x rest : ℕ} (h : Kept kept taken) (r : Remainder kept x rest) where
  -- x and what is left differ by a sum of sets taken
  differ : Span taken (bit_xor x rest)
  differ = sum→span ((kept-sums h (bit_xor x rest)).0 r.left)

  -- where nothing is left, x is a sum of sets taken
  pub kept-zero : rest ≡ 0 → SumOf taken x
  kept-zero e = span→sum (span_eq (ap (bit_xor x) e ∙ xor_zero_r x) differ)

  module _ {k : ℕ} (low : Lowest rest k) where
    -- where something is left, x is no sum of sets taken
    pub kept-left : ¬ SumOf taken x
    kept-left s = go (sum_lowest 0 kept (λ i n. lowest_eq refl (omega arith) (h.rows i n)) (sum→span ((kept-sums h rest).1 (span→sum of_taken))))
      where
        of_taken : Span taken rest
        of_taken = span_eq (xor_cancel x rest) (span_sum (sum→span s) differ)

        go : AtRow 0 kept rest → ⊥
        go (inl e) = lowest_some low e
        go (inr (i, n, m)) = n (r.free i (lowest_eq refl (omega arith) m))

    module _ (b : k < length kept) where
      -- what is left stands at its place
      set_here : get_or (set kept k rest) k 0 ≡ rest
      set_here = get_or-set_same kept k rest 0 b

      -- at the other places stands what stood there
      set_elsewhere : (j : ℕ) → j ≢ k → get_or (set kept k rest) j 0 ≡ get_or kept j 0
      set_elsewhere j n = get_or-set_other kept k j rest 0 n

      -- what was kept is a sum of what is kept now
      kept_now : {v : ℕ} → Span kept v → Span (set kept k rest) v
      kept_now s = span_trans (each-place (Span (set kept k rest)) kept (λ j. go j (ℕ_discrete j k))) s
        where
          go : (j : ℕ) → Dec (j ≡ k) → Span (set kept k rest) (get_or kept j 0)
          go j (yes e) = span_eq (sym (ap (λ (i : ℕ). get_or kept i 0) e ∙ r.free k low)) (span_zero (set kept k rest))
          go j (no d) = span_eq (set_elsewhere j d) (span_place (set kept k rest) j)

      -- so is x
      kept_x : Span (set kept k rest) x
      kept_x = span_eq (xor_undo x rest) (span_sum (kept_now (sum→span r.left)) (span_eq set_here (span_place (set kept k rest) k)))

      -- and what is left is a sum of the sets taken and x
      left_taken : Span (taken ++ x ∷ []) rest
      left_taken = span_eq (xor_cancel x rest) (span_sum (span_in (in_last taken x)) (span_sub (λ v i. Memᴰ.append_left (x ∷ []) i) differ))

      -- with what is left kept at its lowest member, what is kept stands for the sets taken and x
      pub kept_more : Kept (set kept k rest) (taken ++ x ∷ [])
      kept_more =
          record {
            rows = λ j. row j (ℕ_discrete j k);
            up = λ v i. span→sum (elim (in_snoc taken i) [ inl j ↦ kept_now (sum→span (h.up v j)) | inr e ↦ span_eq (sym e) kept_x ]);
            down = λ j. span→sum (back j (ℕ_discrete j k));
          }
        where
          at_k : {j : ℕ} → j ≡ k → rest ≡ get_or (set kept k rest) j 0
          at_k e = sym (ap (λ (i : ℕ). get_or (set kept k rest) i 0) e ∙ set_here)

          row : (j : ℕ) → Dec (j ≡ k) → get_or (set kept k rest) j 0 ≢ 0 → Lowest (get_or (set kept k rest) j 0) j
          row j (yes e) n = lowest_eq (at_k e) (sym e) low
          row j (no d) n = lowest_eq (sym (set_elsewhere j d)) refl (h.rows j (λ z. n (set_elsewhere j d ∙ z)))

          back : (j : ℕ) → Dec (j ≡ k) → Span (taken ++ x ∷ []) (get_or (set kept k rest) j 0)
          back j (yes e) = span_eq (at_k e) left_taken
          back j (no d) = span_eq (sym (set_elsewhere j d)) (span_sub (λ v i. Memᴰ.append_left (x ∷ []) i) (sum→span (h.down j)))
