-- The line of a record from what is told of its label: there is room for every label, and the line has at most seven bytes for each byte of the
-- record. Assumes nothing.
use mathlib.Core.Path.{◌≡◌, refl, sym, ap, ap₂, ◌∙◌}
use mathlib.Core.List.{List, [], ◌∷◌, ◌++◌}
use Prim.Native.Nat.{ℕ, zero, suc, ◌+◌, ◌*◌, ◌^◌, ◌<◌, ◌≤◌}
use native.Mathlib.Omega.{arith}
use lib.Dec.{eqb, lit<}
use lib.ListN.{length, take, drop, length-append}
use lib.Seq.{take_at}
use borrow.Author.Tests.{le-leb, eqb-true, eqb-false}
use Rattle.definitions.specs.Table.{Table, table, bonds, max_bonds}
use Rattle.definitions.specs.Label.{label_of}
use Rattle.definitions.specs.Answer.{Outcome, outcome_of, outcome, over, written, refusal_of_rings}
use Rattle.std.specs.Prelude.{Result, Ok, Err}
use Rattle.definitions.specs.Records.{head_bytes}
use Rattle.definitions.specs.Text.{hex, space, newline}
use Rattle.definitions.specs.Ringline.{label_text, record_line}
use Rattle.definitions.proofs.Tests.{by}
use Rattle.definitions.proofs.Refusals.{accepted, rings-accepted}
use Rattle.answers.specs.declared.refusal.Refusal.{Refusal}
use Rattle.answers.specs.declared.refusal.Refusal.TheVariants.{Odd, Atoms, Bonds, End, SelfBond, Twice, Tangled, Room, NotRing}
use Rattle.answers.specs.Told.{number_of, code_of, count_of, told}
use Rattle.answers.proofs.Answers.{number-some}
use Rattle.records.specs.Spaced.{spaced}
use Rattle.records.proofs.Digits.{decimal-most, length-hex}
use Rattle.ringline.proofs.Writing.{length-record_line, line_parts, text_accepted, text_refused, told_accepted, told_refused}
use Rattle.ringline.proofs.Bounds.{label_most}

-- an accepted table has few bonds
few : (M : Table) → refusal_of_rings M ≡ 0 → bonds M ≤ max_bonds
few M e = ((accepted M).0 ((rings-accepted M).0 e).0).few-bonds

-- what is told of a label that has room: the refusal's number, the count lies within the list, and so many bytes of it are the label
pub record Replied (M : Table) (r : Result ℕ Refusal) (out : List ℕ) : Type 0 where
  pub number : code_of r ≡ refusal_of_rings M
  pub within : count_of r ≤ length out
  pub text : label_text (code_of r) (take (count_of r) out) ≡ label_text (refusal_of_rings M) (label_of M)

-- with 512 bytes of room the table's refusal is told, or its label
pub replied : (M : Table) (r : Result ℕ Refusal) (out lent : List ℕ) → 512 ≤ length lent
    → told r out ≡ written (refusal_of_rings M) (label_of M) lent → Replied M r out
unfolding outcome written over
replied M r out lent h o = go (refusal_of_rings M) refl o
  where
    go : (c : ℕ) → c ≡ refusal_of_rings M → told r out ≡ written c (label_of M) lent → Replied M r out
    go zero e o =
        let room : length (label_of M) ≤ length lent = omega (arith, label_most M (few M (sym e)), few M (sym e)) in
        let all : told r out ≡ outcome_of 0 (length (label_of M)) (label_of M ++ drop (length (label_of M)) lent) = rw (le-leb (length (label_of M)) (length lent) room) at o in
        let n : code_of r ≡ 0 = ap (λ (x : Outcome (List ℕ)). x.number) all in
        let k : count_of r ≡ length (label_of M) = ap (λ (x : Outcome (List ℕ)). x.count) all in
        let l : out ≡ label_of M ++ drop (length (label_of M)) lent = ap (λ (x : Outcome (List ℕ)). x.left) all in
        record { number = n ∙ e; within = omega (arith, ap length l, length-append (label_of M) (drop (length (label_of M)) lent)); text = ap₂ label_text (n ∙ e) (ap₂ take k l ∙ take_at (label_of M) (drop (length (label_of M)) lent) (length (label_of M)) refl) }
    go (suc c) e o =
        let n : code_of r ≡ suc c = ap (λ (x : Outcome (List ℕ)). x.number) o in
        let k : count_of r ≡ 0 = ap (λ (x : Outcome (List ℕ)). x.count) o in
        let f : code_of r ≡ 0 → ⊥ = omega arith in
        let g : refusal_of_rings M ≡ 0 → ⊥ = omega arith in
        record { number = n ∙ e; within = omega arith; text = sym (text_refused (code_of r) (take (count_of r) out) f) ∙ text_refused (refusal_of_rings M) (label_of M) g }

-- the text of a label has at most 26 bytes and 14 for each bond
text_most : (M : Table) → length (label_text (refusal_of_rings M) (label_of M)) ≤ 26 + 14 * bonds M
text_most M =
    by (eqb (refusal_of_rings M) 0)
    (λ e. let z : refusal_of_rings M ≡ 0 = eqb-true (refusal_of_rings M) 0 e in
    omega (arith, ap length (text_accepted (refusal_of_rings M) (label_of M) z), length-hex (label_of M), label_most M (few M z)))
    (λ e. omega (arith, ap length (text_refused (refusal_of_rings M) (label_of M) (eqb-false (refusal_of_rings M) 0 e))))

-- the number of what is told has one digit
told-small : (r : Result ℕ Refusal) → code_of r < 10 ^ 1
told-small (Ok n) = lit< tt
told-small (Err Odd) = lit< tt
told-small (Err Atoms) = lit< tt
told-small (Err Bonds) = lit< tt
told-small (Err End) = lit< tt
told-small (Err SelfBond) = lit< tt
told-small (Err Twice) = lit< tt
told-small (Err Tangled) = lit< tt
told-small (Err Room) = lit< tt
told-small (Err NotRing) = lit< tt

-- so the record's line has at most seven bytes for each byte of its record
pub line-most : {r : Result ℕ Refusal} {out : List ℕ} (n a : ℕ) (bs : List ℕ) → n < 10 ^ 4 → Replied (table a bs) r out → length (record_line n (table a bs)) ≤ 7 * (head_bytes + length bs)
line-most {r} n a bs h told =
    let M = table a bs in
    omega (
      arith,
      length-record_line n M,
      decimal-most 4 n (omega arith) h,
      decimal-most 1 (refusal_of_rings M) (omega arith) (omega (arith, told.number, told-small r)),
      text_most M,
    )

module _ {M : Table} {r : Result ℕ Refusal} {out : List ℕ} (told : Replied M r out) where
  -- a label that is told lies within the list
  pub label_within : {count : ℕ} → r ≡ Ok count → count ≤ length out
  label_within {count} e = (let same : Replied M (Ok count) out = rw e at told in same).within

  -- it makes the record's line
  pub label_line : {count : ℕ} (n : ℕ) → r ≡ Ok count → spaced n ++ ((48 ∷ space ∷ hex (take count out)) ++ (newline ∷ [])) ≡ record_line n M
  label_line {count} n e =
      let same : Replied M (Ok count) out = rw e at told in
      line_parts n M (told_accepted 0 (take count out) refl ∙ ap₂ (λ (c : ℕ) (t : List ℕ). spaced c ++ t) same.number same.text)

  -- and so does a refusal that is told
  pub refusal_line : {e : Refusal} (n : ℕ) → r ≡ Err e → spaced n ++ ((spaced (number_of e) ++ (45 ∷ [])) ++ (newline ∷ [])) ≡ record_line n M
  refusal_line {e} n is =
      let same : Replied M (Err e) out = rw is at told in
      line_parts n M
      (told_refused (number_of e) _ (λ (z : number_of e ≡ 0). omega (arith, number-some e))
      ∙ ap₂ (λ (c : ℕ) (t : List ℕ). spaced c ++ t) same.number same.text)
