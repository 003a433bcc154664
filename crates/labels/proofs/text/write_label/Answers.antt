-- The length is told before a byte is written: what is short is refused, and what fits is written from the start. Assumes nothing.
use mathlib.Core.Path.{◌≡◌, refl, ap, ap₂, ◌∙◌}
use mathlib.Core.List.{List}
use Prim.Native.Nat.{ℕ, ◌+◌, ◌*◌}
use native.Mathlib.Omega.{arith}
use lib.ListN.{length}
use Rattle.definitions.specs.Answer.{over}
use Rattle.answers.proofs.Answers.{is_short, is_full}
use Rattle.labels.specs.Sizes.{lines}
use Rattle.labels.specs.Text.{fields_of, label_bytes}
use Rattle.labels.proofs.Lengths.{length-fields_of}
use Rattle.labels.proofs.text.write_label.Goals as goal
use Rattle.labels.proofs.text.write_label.Goals.{Start, After-new-smallest}

-- the text that is wanted
abbrev text : Start → List ℕ
text c = label_bytes c.args.frerejacque c.args.rings.now c.args.smallest.now c.args.pairs.now

-- the fields of the two histograms are this text
told : (c : After-new-smallest) → let a = c.args in
    let r = c.new-rings.result in
    let s = c.new-smallest.result in
    fields_of a.frerejacque (lines r.width r.counts.now) (lines s.width s.counts.now) a.pairs.now
    ≡ label_bytes a.frerejacque a.rings.now a.smallest.now a.pairs.now
unfolding label_bytes
told c = let a = c.args in
    let r = c.new-rings.ensures in
    let s = c.new-smallest.ensures in
    ap₂ (λ (x y : List ℕ). fields_of a.frerejacque x y a.pairs.now) (ap₂ lines r.0 r.1) (ap₂ lines s.0 s.1)

-- the count is its length
counted : (c : After-new-smallest) → let a = c.args in
    13 + c.new-rings.result.bytes + c.new-smallest.result.bytes + 2 * length a.pairs.now
    ≡ length (label_bytes a.frerejacque a.rings.now a.smallest.now a.pairs.now)
counted c = let r = c.new-rings.result in
    let s = c.new-smallest.result in
    omega (arith, r.long, s.long, length-fields_of c.args.frerejacque (lines r.width r.counts.now) (lines s.width s.counts.now) c.args.pairs.now, ap length (told c))

pub returns-then-count-out : goal.returns-then-count-out
returns-then-count-out c =
    let at = goal.at.returns-then-count-out c in
    is_short (text at.Start) c.args.out.now {c = 0} refl (counted at.After-new-smallest) (omega arith)

pub put_fields-requires : goal.put_fields-requires
put_fields-requires c =
    let at = goal.at.put_fields-requires c in
    omega (arith, counted at.After-new-smallest, ap length (told at.After-new-smallest))

pub returns : goal.returns
returns c =
    let at = goal.at.returns c in
    is_full (text at.Start) c.args.out.now {c = 0} refl (counted at.After-new-smallest) (omega arith)
    (c.put_fields.ensures ∙ ap (λ (t : List ℕ). over t c.args.out.now) (told at.After-new-smallest))
