-- The words of so many sets are the start of the list. Assumes nothing.
use mathlib.Core.Path.{sym, ap, ◌∙◌}
use Prim.Native.Nat.{ℕ}
use native.Mathlib.Omega.{arith}
use lib.ListN.{take}
use lib.Seq.{length-take-le}
use Rattle.sets.specs.Lists.{sets_in}
use Rattle.sets.proofs.Lists.{take_min, sets-take, sets-length, words_are}
use Rattle.basis.proofs.assembly.first_sets.Goals as goal

pub slice_bounds-result-end : goal.slice_bounds-result-end
slice_bounds-result-end c = let ws = c.args.list.now in
    sym (length-take-le _ ws (omega (arith, c.sets_up_to.ensures, sets-length ws)))

pub returns : goal.returns
returns c = let ws = c.args.list.now in
    ap (λ (n : ℕ). sets_in (take n ws)) (sym (words_are c.sets_up_to.result))
    ∙ sets-take c.sets_up_to.result ws (omega (arith, c.sets_up_to.ensures))
    ∙ ap (λ (n : ℕ). take n (sets_in ws)) c.sets_up_to.ensures ∙ take_min c.args.count (sets_in ws)
