-- Texts that are written: a number and a space, and a part of the list. Assumes nothing.
use mathlib.Core.Path.{◌≡◌, refl}
use mathlib.Core.List.{List}
use Prim.Native.Nat.{ℕ, ◌+◌}
use lib.ListN.{length, length-append}
use lib.Seq.{drop-drop}
use borrow.Rule.Slice.PartMut.{put_mid}
use Rattle.definitions.specs.Text.{decimal}
use Rattle.lent.specs.Appended.{Appended}
use Rattle.records.specs.Spaced.{spaced}

-- a number and a space are one byte longer than the number
pub length-spaced : (n : ℕ) → length (spaced n) ≡ length (decimal n) + 1
unfolding spaced
length-spaced n = length-append (decimal n) _

-- what a part of the list is overwritten with is appended, where the part is as long
pub appended_part : (l : List ℕ) {s t : List ℕ} {at k next : ℕ} → t ≡ s → next ≡ at + length s → k ≡ length s → Appended l at s (put_mid at k l t) next
appended_part l {s} {t} {at} {k} {next} e f h = record { end = f; list = rw (e, h, f, drop-drop (length s) at l) refl }
