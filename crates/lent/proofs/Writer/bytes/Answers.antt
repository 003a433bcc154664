-- The bytes are stored from the place on. Assumes nothing.
use mathlib.Core.Path.{refl, ap, ap₂, ◌∙◌}
use mathlib.Core.List.{List, ◌++◌}
use Prim.Native.Nat.{ℕ}
use native.Mathlib.Omega.{arith}
use lib.ListN.{take, drop}
use lib.Seq.{drop-drop}
use Rattle.lent.proofs.Writer.bytes.Goals as goal

pub returns : goal.returns
returns c = let w = c.args.self.now in
    record {
      room = c.requires;
      same = refl;
      appended = record {
        end = refl;
        list =
            ap₂ (λ (s rest : List ℕ). take w.at w.out.now ++ (s ++ rest)) c.copy_from_slice.ensures.after
            (drop-drop _ w.at w.out.now ∙ ap (λ (k : ℕ). drop k w.out.now) (omega arith));
      };
    }
