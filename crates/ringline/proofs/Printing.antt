-- The loop over the records: what is printed so far, and the lines of what is left, are the lines of the whole input. Assumes nothing.
use mathlib.Core.Path.{◌≡◌, sym, ap, ◌∙◌}
use mathlib.Core.Bool.{true, false}
use mathlib.Core.List.{List, ◌++◌, append_assoc}
use Prim.Native.Nat.{ℕ, ◌+◌, ◌-◌, ◌*◌, ◌^◌, ◌<◌, ◌≤◌}
use native.Mathlib.Omega.{arith}
use lib.ListN.{length, take, drop, length-drop}
use lib.Seq.{take_at, length-take-le}
use borrow.Author.Tests.{lt-ltb, le-ltb}
use Rattle.definitions.specs.Records.{record_table, record_bytes, whole?}
use Rattle.definitions.specs.Ringline.{record_line, end_line, frame_line, max_input, long_line, first_line, ringline}
use Rattle.lent.specs.Appended.{Appended}
use Rattle.lent.specs.Writes.{Writes}
use Rattle.lent.specs.declared.Writer.{Writer}
use Rattle.lent.proofs.Writing.{writes_more, writes_as, writes_length}
use Rattle.ringline.specs.Counts.{IsPrefixLen}
use Rattle.records.proofs.Records.{whole-fits}
use Rattle.ringline.proofs.Lines.{lines, lines_end, lines_frame, lines-record}

-- before record `number`, the first of what is left: the lines before it are written, and there is room for the others
pub record Printed (input left : List ℕ) (start now : Writer) (number : ℕ) : Type 0 where
  pub first : 0 < number
  pub counted : 7 * number + length left ≤ length input + 7
  pub room : now.at + 7 * length left + 16 ≤ length now.out.now
  pub said : List ℕ
  pub text : Writes said start now
  pub rest : said ++ lines number left ≡ lines 1 input

module _ {input left : List ℕ} {start now : Writer} {number : ℕ} (p : Printed input left start now number) where
  -- few records come before the last
  pub printed_few : length input ≤ max_input → number < 10 ^ 4
  printed_few h = omega (arith, p.counted)

  -- the next record is printed
  pub printed_more : {left' : List ℕ} {next : Writer} → whole? left ≡ true → left' ≡ drop (record_bytes left) left → Writes (record_line number (record_table left)) now next → next.at ≤ now.at + 7 * record_bytes left
      → Printed input left' start next (number + 1)
  printed_more {left'} {next} w e line short = record {
    first = omega arith;
    counted = omega (arith, p.counted, fits, shorter);
    room = omega (arith, p.room, fits, shorter, writes_length line);
    said = p.said ++ record_line number (record_table left);
    text = writes_more p.text line;
    rest =
        append_assoc p.said (record_line number (record_table left)) (lines (number + 1) left')
        ∙ ap (λ (t : List ℕ). p.said ++ t) (ap (λ (bs : List ℕ). record_line number (record_table left) ++ lines (number + 1) bs) e ∙ sym (lines-record number left w))
        ∙ p.rest;
  }
    where
      fits : record_bytes left ≤ length left
      fits = whole-fits left w

      shorter : length left' ≡ length left - record_bytes left
      shorter = ap length e ∙ length-drop (record_bytes left) left

  -- the last line is printed
  printed_last : {last : List ℕ} {end : Writer} → lines number left ≡ last → Writes last now end → Writes (lines 1 input) start end
  printed_last e line = writes_as (writes_more p.text line) (ap (λ (t : List ℕ). p.said ++ t) (sym e) ∙ p.rest)

  -- which is the end where nothing is left
  pub printed_end : {end : Writer} → length left ≡ 0 → Writes (end_line (number - 1)) now end → Writes (lines 1 input) start end
  printed_end h = printed_last (lines_end number left h)

  -- and otherwise `frame`
  pub printed_frame : {end : Writer} → (length left ≡ 0 → ⊥) → whole? left ≡ false → Writes (frame_line number) now end → Writes (lines 1 input) start end
  printed_frame h w = printed_last (lines_frame number left h w)

-- ---- the whole text

-- input over the limit prints only `long`
pub ringline-long : (input : List ℕ) → max_input < length input → long_line ≡ ringline input
unfolding ringline
ringline-long input h = rw (lt-ltb max_input (length input) h, ringline)

-- any other the first line and the lines of its records
pub ringline-lines : (input : List ℕ) → length input ≤ max_input → first_line ++ lines 1 input ≡ ringline input
unfolding ringline
ringline-lines input h = rw (le-ltb max_input (length input) h, ringline)

-- the list starts with this text, up to the writer's place
abbrev pub Starts : Writer → List ℕ → Type 0
Starts w text = IsPrefixLen w.at w.out.now × (take w.at w.out.now ≡ text)

-- it does where the text was written from the start
pub writes_start : {a b : Writer} {text : List ℕ} → a.at ≡ 0 → Writes text a b → Starts b text
writes_start {a} {b} {text} start all =
    let m : Appended a.out.now 0 text b.out.now b.at = rw start at all.appended in
    let t : take b.at b.out.now ≡ text = ap (take b.at) m.list ∙ take_at text (drop b.at a.out.now) b.at (omega (arith, m.end)) in
    let k : b.at ≤ length b.out.now = omega (arith, all.room, writes_length all, all.appended.end) in
    ((k, sym (length-take-le b.at b.out.now k)), t)
