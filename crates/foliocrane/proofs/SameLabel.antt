-- Demand 3: what `foliocrane_label` answers does not depend on the numbering, by its own postcondition. Assumes nothing.
use mathlib.Core.Path.{◌≡◌, sym, ap, subst₂, ◌∙◌}
use mathlib.Core.Logic.{⊎_elim}
use mathlib.Core.List.{List}
use Prim.Native.Nat.{ℕ}
use Rattle.definitions.specs.Answer.{Outcome}
use Rattle.renumbering.specs.Renumbered.{Agree}
use Rattle.renumbering.proofs.Label.{label_of_renumbered, label_fits_renumbered}
use Rattle.foliocrane.specs.Call.{Call, Called, Called.called}
use Rattle.foliocrane.specs.SameLabel.{SameLabel}
use Rattle.foliocrane.proofs.foliocrane_label.Reads as label

-- two calls of it for tables that differ only in their numbering have one label, or one refusal
pub label_does_not_depend_on_numbering : (c d : Call) → Called label.Post c → Called label.Post d → SameLabel c d
label_does_not_depend_on_numbering c d (called h) (called g) r inside rooms =
    subst₂ Agree (sym h.0) (sym g.0) (⊎_elim (label_of_renumbered r inside c.lent d.lent)
    (λ fit. label_fits_renumbered r inside c.lent d.lent (λ z. fit.0 (told h.0 ∙ z)) (λ z. fit.1 (told g.0 ∙ z))) rooms)
  where
    told : {x y : Outcome (List ℕ)} → x ≡ y → x.number ≡ y.number
    told e = ap (λ (o : Outcome (List ℕ)). o.number) e
