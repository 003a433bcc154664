-- The rows in a list of sets: each turn over a bond adds it to the rows of its two atoms. Assumes nothing.
use mathlib.Core.Path.{◌≡◌, refl, sym, ap, subst, ◌∙◌}
use mathlib.Core.Bool.{true, false, or-true}
use mathlib.Core.List.{List}
use native.Mathlib.Nat.{le_antisymm}
use Prim.Native.Nat.{ℕ, ◌+◌, ◌*◌, ◌/◌, ◌≤◌, ◌<◌}
use native.Mathlib.Omega.{arith}
use lib.ListN.{length, get_or, set, length-set, replicate, length-replicate}
use lib.Seq.{get_or-set_same, get_or-set_other}
use lib.Dec.{eqb}
use borrow.Author.Tests.{eqb-true, eqb-false}
use Rattle.sets.specs.Bits.{with, put}
use Rattle.sets.specs.Bond.{room}
use Rattle.sets.specs.Lists.{sets_in, words, Put}
use Rattle.sets.proofs.Lists.{sets-blank, sets-long}
use Rattle.sets.proofs.Machine.{put_below}
use Rattle.definitions.specs.Search.{set_of}
use Rattle.definitions.specs.Table.{Table, tail, head, meets?, max_atoms}
use Rattle.definitions.proofs.Tests.{by, eqb_self}
use Rattle.definitions.proofs.Lists.{set_of_skip, set_of-take, get_or-same}
use Rattle.table.specs.Ends.{bonds_alone, Fitting}
use Rattle.table.specs.Rows.{Rowed, RowsOf}
use Rattle.std.proofs.Common.{Result, Ok, Err, IfOk}
use Rattle.answers.specs.Told.{code_of}
use Rattle.answers.specs.declared.refusal.Refusal.{Refusal}
use Rattle.table.proofs.Fitting.{EndAt}

-- a list of zeros, of words for a set an atom
abbrev blank_rows : List ℕ
blank_rows = replicate (max_atoms * words) 0

-- each set of it is empty
blank_empty : (a : ℕ) → get_or (sets_in blank_rows) a 0 ≡ 0
blank_empty a = rw (sets-blank max_atoms) (get_or-same max_atoms a 0)

-- so it holds the rows before the first bond
pub rowed-none : (bs : List ℕ) → Rowed bs 0 blank_rows
unfolding set_of
rowed-none bs = record { long = ap length (sets-blank max_atoms) ∙ length-replicate {A = ℕ} max_atoms 0; row = λ a h. blank_empty a }

-- a list of rows has a place for each atom also after a row is put in it
pub put-room : {bs rows mid : List ℕ} {k i x a : ℕ} → Rowed bs k rows → Put rows i x mid → a < max_atoms → a < length (sets_in mid)
put-room {rows = rows} {mid} h p low = omega (arith, h.long, sets-long mid rows p.long)

-- bond k is added to the row s of i, as x, and to the row t of j, as y
module _ {bs rows mid after : List ℕ} {k i j s t x y : ℕ} (h : Rowed bs k rows) (f : Fitting bs) (l : k < length bs / 2)
    (ei : EndAt i (tail (bonds_alone bs) k)) (ej : EndAt j (head (bonds_alone bs) k))
    (es : s ≡ get_or (sets_in rows) i 0) (et : t ≡ get_or (sets_in rows) j 0)
    (ex : x ≡ put room s k) (p : Put rows i x mid) (ey : y ≡ put room t k) (q : Put mid j y after) where
  -- the row of an atom that bond k meets, by one bond more
  met : {a u v : ℕ} → a < max_atoms → meets? (bonds_alone bs) a k ≡ true → u ≡ get_or (sets_in rows) a 0 → v ≡ put room u k → v ≡ set_of (k + 1) (meets? (bonds_alone bs) a)
  met {a} {u} low m eu ev =
      ev ∙ put_below room u k (omega (arith, f.few)) ∙ ap (λ (w : ℕ). with w k) (eu ∙ h.row a low)
      ∙ sym (set_of-take (meets? (bonds_alone bs) a) k (sym m) refl)

  head-row : y ≡ set_of (k + 1) (meets? (bonds_alone bs) j)
  head-row = met ej.1 (rw (← ej.0, eqb_self j) (or-true (eqb (tail (bonds_alone bs) k) j))) et ey

  tail-row : x ≡ set_of (k + 1) (meets? (bonds_alone bs) i)
  tail-row = met ei.1 (rw (← ei.0, eqb_self i) refl) es ex

  -- the row of any other atom
  other_row : (a : ℕ) → a < max_atoms → eqb i a ≡ false → eqb j a ≡ false → get_or (sets_in rows) a 0 ≡ set_of (k + 1) (meets? (bonds_alone bs) a)
  other_row a low d e = h.row a low ∙ sym (set_of_skip (meets? (bonds_alone bs) a) k (sym (rw (← ei.0, ← ej.0, d, e) refl)) refl)

  -- so each row holds the bonds up to k that meet its atom
  each_row : (a : ℕ) → a < max_atoms → get_or (set (set (sets_in rows) i x) j y) a 0 ≡ set_of (k + 1) (meets? (bonds_alone bs) a)
  each_row a low =
      by (eqb j a)
      (λ e. rw (← eqb-true j a e) (get_or-set_same (set (sets_in rows) i x) j y 0 (simp length-set (omega (arith, h.long))) ∙ head-row))
      (λ e. get_or-set_other (set (sets_in rows) i x) j a y 0 (λ w. eqb-false j a e (sym w))
      ∙ by (eqb i a) (λ d. rw (← eqb-true i a d) (get_or-set_same (sets_in rows) i x 0 (omega (arith, h.long)) ∙ tail-row))
      (λ d. get_or-set_other (sets_in rows) i a x 0 (λ w. eqb-false i a d (sym w)) ∙ other_row a low d e))

  pub rowed_more : Rowed bs (k + 1) after
  rowed_more =
      let both = q.sets ∙ ap (λ (ss : List ℕ). set ss j y) p.sets in
      record { long = rw both (simp length-set h.long); row = λ a low. rw both (each_row a low) }

-- past the last bond the rows are by all bonds
pub rowed_all : {bs rows : List ℕ} {n k : ℕ} → Rowed bs k rows → k ≤ n → n ≤ k → Rowed bs n rows
rowed_all {bs} {rows} h within past = subst (λ (m : ℕ). Rowed bs m rows) (le_antisymm within past) h

-- two of one table tell the same refusal or have the same rows
pub rows_same : {M : Table} {p : Result (List ℕ) Refusal} {q : Result (List ℕ) Refusal} → RowsOf M p → RowsOf M q
    → (code_of p ≡ code_of q) × IfOk p (λ rows. IfOk q (λ others. (a : ℕ) → a < max_atoms → get_or (sets_in rows) a 0 ≡ get_or (sets_in others) a 0))
rows_same {M = M} {p = Ok rows} {q = Ok others} h k = (h.number ∙ sym k.number, λ a low. h.rows.row a low ∙ sym (k.rows.row a low))
rows_same {M = M} {p = Ok rows} {q = Err e} h k = (h.number ∙ sym k.number, tt)
rows_same {M = M} {p = Err d} {q = q} h k = (h.number ∙ sym k.number, tt)
