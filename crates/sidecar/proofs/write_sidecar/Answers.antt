-- The length is told before a byte is written: what is short is refused, and what fits is written from the start. Assumes nothing.
use mathlib.Core.Path.{◌≡◌, refl, ap}
use mathlib.Core.List.{List}
use Prim.Native.Nat.{ℕ, ◌+◌, ◌*◌}
use native.Mathlib.Omega.{arith}
use lib.ListN.{length}
use borrow.Author.Rules.{rules}
use Rattle.sets.specs.Lists.{sets_in}
use Rattle.sets.proofs.Lists.{sets-length}
use Rattle.definitions.specs.Label.{bytes_of_all, field, sidecar_tag, set_bytes}
use Rattle.definitions.specs.Answer.{over}
use Rattle.answers.proofs.Answers.{is_short, is_full}
use Rattle.lent.proofs.Writing.{writes_over}
use Rattle.fields.proofs.Bytes.{length-bytes_of_all}
use Rattle.fields.proofs.Tagging.{length-field, content_fits, field_written}
use Rattle.sidecar.proofs.write_sidecar.Goals as goal
use Rattle.sidecar.proofs.write_sidecar.Goals.{After-sets_in-content}

-- the bytes of the sets
abbrev content : List ℕ → List ℕ
content sets = bytes_of_all set_bytes (sets_in sets)

module _ (c : After-sets_in-content) where
  -- they are eight a set
  counted : 8 * c.sets_in-content.result ≡ length (content c.args.sets.now)
  counted = omega (arith, c.sets_in-content.ensures, length-bytes_of_all set_bytes (sets_in c.args.sets.now))

  -- the count is the length of the field
  whole : 3 + 8 * c.sets_in-content.result ≡ length (field sidecar_tag (content c.args.sets.now))
  whole = omega (arith, counted, length-field sidecar_tag (content c.args.sets.now))

pub overflow_mul-content : goal.overflow_mul-content
overflow_mul-content c = omega (arith, c.sets_in-content.ensures, sets-length c.args.sets.now)

pub overflow_add-count : goal.overflow_add-count
overflow_add-count c = omega (arith, c.sets_in-content.ensures, sets-length c.args.sets.now)

pub returns-then-out-count : goal.returns-then-out-count
returns-then-out-count c = is_short _ c.args.out.now {c = 0} refl (whole (goal.at.returns-then-out-count c).After-sets_in-content) (omega arith)

pub put_sets-requires : goal.put_sets-requires
put_sets-requires c =
    let at = (goal.at.put_sets-requires c).After-sets_in-content in
    let writer = c.new-writer.ensures in
    content_fits sidecar_tag (content c.args.sets.now) _ (omega (arith, whole at, ap length writer.list, writer.start)) (counted at) (rw c.byte.ensures at c.put_head.ensures)

pub returns : goal.returns
returns c =
    let at = (goal.at.returns c).After-sets_in-content in
    let writer = c.new-writer.ensures in
    let written : c.put_sets.new.writer.out.now ≡ over (field sidecar_tag (content c.args.sets.now)) c.args.out.now =
    writes_over writer.start writer.list
    (field_written sidecar_tag (content c.args.sets.now) _ (omega (arith, whole at, ap length writer.list, writer.start)) (counted at) (rw c.byte.ensures at c.put_head.ensures) c.put_sets.ensures) in
    is_full _ c.args.out.now {c = 0} refl (whole at) (omega arith) (search (rules, written))
