-- What is counted of a table makes its label. Assumes nothing.
use mathlib.Core.Path.{◌≡◌, refl, sym, ap, ◌∙◌}
use mathlib.Core.List.{List, [], ◌∷◌, map}
use Prim.Native.Nat.{ℕ, ◌<◌}
use native.Mathlib.Nat.{mod-eq_of_lt}
use native.Mathlib.Omega.{arith}
use lib.ListN.{take, get_or, replicate, get_or-eq_default}
use lib.Seq.{get_or-take, length-take-le}
use lib.Dec.{ltb}
use borrow.Author.Tests.{ltb-true, ltb-false}
use Rattle.sets.specs.Bits.{size}
use Rattle.definitions.specs.Table.{Table, all_sizes}
use Rattle.definitions.specs.AllRings.{all_rings}
use Rattle.definitions.specs.Smallest.{smallest_basis}
use Rattle.definitions.specs.Label.{bytes_of, bytes_of_all, occurs, frerejacque, label_of}
use Rattle.definitions.specs.Answer.{Outcome, written, refusal_of_rings}
use Rattle.definitions.proofs.Tests.{by}
use Rattle.definitions.proofs.Lists.{get_or-same}
use Rattle.definitions.proofs.Refusals.{accepted, rings-accepted}
use Rattle.definitions.proofs.Fragments.{frerejacque_is_basis}
use Rattle.answers.proofs.Answers.{is_accepted}
use Rattle.ordering.specs.Sizes.{SizesOf}
use Rattle.rings.specs.Counts.{Blank, Counted, CountsOf}
use Rattle.std.proofs.Common.{Ok}
use Rattle.rings.specs.declared.Counts.{Counts}
use Rattle.rings.specs.declared.histograms.Histograms.{Histograms}
use Rattle.labels.specs.Text.{label_bytes}
use Rattle.labels.proofs.Counting.{lines-histogram}
use Rattle.label.proofs.Fitting.{frerejacque-fits}

-- a number below 256 is its one byte
one_byte : (x : ℕ) → x < 256 → bytes_of_all 1 (x ∷ []) ≡ x ∷ []
unfolding bytes_of_all bytes_of
one_byte x h = ap (λ (y : ℕ). y ∷ []) (mod-eq_of_lt h)

-- lists that are cleared are blank
pub cleared : Blank (replicate all_sizes 0)
cleared = record { long = refl; none = λ z. get_or-same all_sizes z 0 }

-- the counts below the bound say how many sets have any size
told_below : {sets counts : List ℕ} {top : ℕ} → SizesOf sets counts top → (z : ℕ) → z < all_sizes → get_or (take top counts) z 0 ≡ occurs z (map size sets)
told_below {counts = counts} {top} s z h =
    by (ltb z top)
    (λ t. get_or-take top counts z 0 (ltb-true z top t) ∙ s.told z h)
    (λ t. get_or-eq_default (take top counts) 0 (omega (arith, length-take-le top counts (omega (arith, s.long, s.within)), ltb-false z top t)) ∙ sym (s.none z (ltb-false z top t)) ∙ s.told z h)

module _ {M : Table} {c : Counts} {start h : Histograms} {lent pairs : List ℕ} (t : CountsOf M (Ok c) start h lent pairs) where
  zero-given : refusal_of_rings M ≡ 0
  zero-given = sym t.number

  -- what is counted of an accepted table
  pub counted : Counted M c h pairs
  counted = t.accepted

  -- the basis rings are as many as the Frerejacque number says
  basis-frerejacque : c.basis ≡ frerejacque M
  basis-frerejacque = counted.basis ∙ sym (frerejacque_is_basis ((accepted M).0 ((rings-accepted M).0 zero-given).0))

  -- its text is the label
  label_text_lem : label_bytes c.basis (take h.top h.all) (take h.top h.smallest) (take c.pairs pairs) ≡ label_of M
  unfolding label_bytes label_of
  label_text_lem = rw (
    lines-histogram 2 (all_rings M) (take h.top h.all) (told_below counted.rings),
    lines-histogram 1 (smallest_basis M) (take h.top h.smallest) (told_below counted.chosen),
    counted.rising,
    basis-frerejacque,
    one_byte (frerejacque M) (frerejacque-fits M ((rings-accepted M).0 zero-given).0),
  )

  -- so what is written is the label
  pub label_written : (out : List ℕ) {o : Outcome (List ℕ)} → o ≡ written 0 (label_bytes c.basis (take h.top h.all) (take h.top h.smallest) (take c.pairs pairs)) out
      → o ≡ written (refusal_of_rings M) (label_of M) out
  label_written out w = is_accepted (label_of M) out t.number label_text_lem w
