-- The lines of the records of a list, one record after another. Assumes nothing.
use mathlib.Core.Path.{◌≡◌, refl, sym, ap, ◌∙◌}
use mathlib.Core.Bool.{true, false}
use mathlib.Core.List.{List, ◌++◌}
use Prim.Native.Nat.{ℕ, zero, suc, ◌+◌, ◌-◌, ◌≤◌}
use native.Mathlib.Omega.{arith}
use lib.Dec.{eqb}
use lib.ListN.{length, drop, length-drop}
use borrow.Author.Tests.{eqb-true, eqb-false, eq-eqb, ne_eqb}
use Rattle.definitions.specs.Records.{record_bytes, record_table, whole?}
use Rattle.definitions.specs.Ringline.{lines_of, record_line, end_line, frame_line}
use Rattle.definitions.proofs.Tests.{by}
use Rattle.records.proofs.Records.{whole-fits}

-- at the end of the input
ends : (f n : ℕ) (bs : List ℕ) → length bs ≡ 0 → lines_of f n bs ≡ end_line (n - 1)
unfolding lines_of
ends zero n bs h = refl
ends (suc f) n bs h = rw (eq-eqb (length bs) 0 h, lines_of)

-- at a whole record
goes : (f n : ℕ) (bs : List ℕ) → whole? bs ≡ true → lines_of (suc f) n bs ≡ record_line n (record_table bs) ++ lines_of f (n + 1) (drop (record_bytes bs) bs)
unfolding lines_of
goes f n bs w = let h : length bs ≡ 0 → ⊥ = omega (arith, whole-fits bs w) in rw (ne_eqb (length bs) 0 h, lines_of, w, lines_of)

-- at anything else
breaks : (f n : ℕ) (bs : List ℕ) → (length bs ≡ 0 → ⊥) → whole? bs ≡ false → lines_of (suc f) n bs ≡ frame_line n
unfolding lines_of
breaks f n bs h w = rw (ne_eqb (length bs) 0 h, lines_of, w, lines_of)

-- how many records may still come does not matter, where it is not too few
pub lines_fuel : (f g n : ℕ) (bs : List ℕ) → length bs ≤ f → length bs ≤ g → lines_of f n bs ≡ lines_of g n bs
lines_fuel zero g n bs p q = ends zero n bs (omega arith) ∙ sym (ends g n bs (omega arith))
lines_fuel (suc f) zero n bs p q = ends (suc f) n bs (omega arith) ∙ sym (ends zero n bs (omega arith))
lines_fuel (suc f) (suc g) n bs p q =
    by (whole? bs)
    (λ w. let s : record_bytes bs ≤ length bs = whole-fits bs w in
    goes f n bs w
    ∙ ap (λ (t : List ℕ). record_line n (record_table bs) ++ t)
    (lines_fuel f g (n + 1) (drop (record_bytes bs) bs) (omega (arith, length-drop (record_bytes bs) bs)) (omega (arith, length-drop (record_bytes bs) bs)))
    ∙ sym (goes g n bs w))
    (λ w. by (eqb (length bs) 0)
    (λ e. ends (suc f) n bs (eqb-true _ _ e) ∙ sym (ends (suc g) n bs (eqb-true _ _ e)))
    (λ e. breaks f n bs (eqb-false _ _ e) w ∙ sym (breaks g n bs (eqb-false _ _ e) w)))

-- the lines of all records of a list, from number n on
abbrev pub lines : ℕ → List ℕ → List ℕ
lines n bs = lines_of (length bs) n bs

-- at the end of the list: the end and the number of records before
pub lines_end : (n : ℕ) (bs : List ℕ) → length bs ≡ 0 → lines n bs ≡ end_line (n - 1)
lines_end n bs h = ends (length bs) n bs h

-- at a broken record: its number and `frame`
pub lines_frame : (n : ℕ) (bs : List ℕ) → (length bs ≡ 0 → ⊥) → whole? bs ≡ false → lines n bs ≡ frame_line n
lines_frame n bs h w = let e : length bs ≡ suc (length bs - 1) = omega arith in lines_fuel (length bs) (suc (length bs - 1)) n bs (omega arith) (omega arith) ∙ breaks (length bs - 1) n bs h w

-- at a whole record: its line, and the lines after it
pub lines-record : (n : ℕ) (bs : List ℕ) → whole? bs ≡ true → lines n bs ≡ record_line n (record_table bs) ++ lines (n + 1) (drop (record_bytes bs) bs)
lines-record n bs w =
    let s : record_bytes bs ≤ length bs = whole-fits bs w in
    lines_fuel (length bs) (suc (length bs)) n bs (omega arith) (omega arith)
    ∙ goes (length bs) n bs w
    ∙ ap (λ (t : List ℕ). record_line n (record_table bs) ++ t)
    (lines_fuel (length bs) (length (drop (record_bytes bs) bs)) (n + 1) (drop (record_bytes bs) bs) (omega (arith, length-drop (record_bytes bs) bs)) (omega arith))
