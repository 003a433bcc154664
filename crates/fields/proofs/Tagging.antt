-- Tagged fields: a head of three bytes, and the content after it. Assumes nothing.
use mathlib.Core.Path.{◌≡◌, ap, ◌∙◌}
use mathlib.Core.List.{List, ◌∷◌}
use Prim.Native.Nat.{ℕ, suc, ◌+◌, ◌≤◌}
use native.Mathlib.Omega.{arith}
use lib.ListN.{length, length-append}
use Rattle.definitions.specs.Label.{bytes_of, field}
use Rattle.lent.specs.declared.Writer.{Writer}
use Rattle.lent.specs.Writes.{Fits, Writes}
use Rattle.lent.proofs.Writing.{writes_room, writes_more}
use Rattle.fields.proofs.Bytes.{length-bytes_of}

-- a field is three bytes longer than its content
pub length-field : (tag : ℕ) (content : List ℕ) → length (field tag content) ≡ 3 + length content
unfolding field
length-field tag content =
    ap suc (length-append (bytes_of 2 (length content)) content) ∙ omega (arith, length-bytes_of 2 (length content))

module _ (tag : ℕ) (content : List ℕ) (before : Writer) (room : Fits (field tag content) before) where
  -- there is room for the head
  pub head-fits : before.at + 3 ≤ length before.out.now
  head-fits = omega (arith, length-field tag content)

  module _ {n : ℕ} {after : Writer} (told : n ≡ length content) (head : Writes (tag ∷ bytes_of 2 n) before after) where
    -- and for the content after it
    pub content_fits : Fits content after
    unfolding field
    content_fits = writes_room (rw told at head) content room

    -- the content written after its head makes the field
    pub field_written : {last : Writer} → Writes content after last → Writes (field tag content) before last
    unfolding field
    field_written then = writes_more (rw told at head) then
