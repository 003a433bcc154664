-- Field 01 over calls, by the postconditions of `foliocrane_label` and `foliocrane_check`. Assumes nothing.
use mathlib.Core.Path.{◌≡◌, refl, sym, ap, ◌∙◌}
use mathlib.Core.List.{List}
use Prim.Native.Nat.{ℕ}
use native.Mathlib.Omega.{arith}
use lib.ListN.{length, get_or}
use Rattle.definitions.specs.Table.{Table, refusal}
use Rattle.definitions.specs.Basis.{basis_rings}
use Rattle.definitions.specs.Label.{bytes_of, field, frerejacque, label_of}
use Rattle.definitions.specs.Answer.{Outcome, counted}
use Rattle.definitions.proofs.Refusals.{accepted, rings-accepted}
use Rattle.definitions.proofs.Fragments.{ring-count, frerejacque_is_basis}
use Rattle.foliocrane.specs.Call.{Call, Checked, Checked.checked, Called, Called.called, table_in}
use Rattle.foliocrane.specs.FieldOne.{field_one, FieldOne}
use Rattle.foliocrane.proofs.Answered.{outcome_roomy, bytes_of-rings_answered, check_answers}
use Rattle.foliocrane.proofs.Tied.{bytes-free, bytes-given}
use Rattle.foliocrane.proofs.foliocrane_check.Reads as check
use Rattle.foliocrane.proofs.foliocrane_label.Reads as label

-- the byte at place 3 of a label is its Frerejacque number
at_three : (M : Table) → get_or (label_of M) 3 0 ≡ frerejacque M
unfolding label_of field bytes_of
at_three M = refl

-- the check's number is the table's refusal
check_number : (d : Call) → Checked check.Post d → d.number ≡ refusal (table_in d)
unfolding counted
check_number d (checked h) = ap (λ (o : Outcome (List ℕ)). o.number) h.0 ∙ sym (outcome_roomy _ _ _ (refusal (table_in d)))

-- in a label that is given field 01 is bonds - atoms + fragments, and the number that the check counts
pub field-one_counts : (c d : Call) → Called label.Post c → Checked check.Post d → table_in c ≡ table_in d → c.number ≡ 0 → FieldOne c d
field-one_counts c d (called h) g same z =
    let M = table_in c in
    let free = ((rings-accepted M).0 (bytes-free c z _ (label_of M) h)).0 in
    let rings = frerejacque_is_basis ((accepted M).0 free) in
    let number : field_one c ≡ frerejacque M
    = ap (λ (l : List ℕ). get_or l 3 0) (bytes-given c z (label_of M) refl (bytes_of-rings_answered c label_of h)) ∙ at_three M in
    let none : d.number ≡ 0 = check_number d g ∙ ap refusal (sym same) ∙ free in
    record {
      balance = omega (arith, number, rings, ring-count ((accepted M).0 free));
      check_accepts = none;
      check_counts = ((check_answers d g).given none).0 ∙ ap (λ (N : Table). length (basis_rings N)) (sym same) ∙ sym (number ∙ rings);
    }
