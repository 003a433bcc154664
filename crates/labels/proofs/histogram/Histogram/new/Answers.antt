-- Each size that some set has has a line of the same length. Assumes nothing.
use mathlib.Core.Path.{ap, ◌∙◌}
use Prim.Native.Nat.{ℕ, ◌+◌, ◌*◌, ◌≤◌}
use native.Mathlib.Nat.{mul-le-mul}
use native.Mathlib.Omega.{arith}
use lib.Dec.{ltb}
use Rattle.std.proofs.lemmas.List.Sums.{count_by-le-length}
use Rattle.definitions.specs.Table.{all_sizes}
use Rattle.labels.proofs.Counting.{lines_counted}
use Rattle.labels.proofs.histogram.Histogram.new.Goals as goal

pub invariant_of-result-clause-long : goal.invariant_of-result-clause-long
invariant_of-result-clause-long c = let w = c.args.width in
    ap (λ (n : ℕ). n * (1 + w)) c.sizes_had.ensures ∙ lines_counted w c.args.counts.now c.requires.1

pub invariant_of-result-clause-short : goal.invariant_of-result-clause-short
invariant_of-result-clause-short c =
    let few : c.sizes_had.result ≤ all_sizes = omega (arith, c.sizes_had.ensures, count_by-le-length (λ (k : ℕ). ltb 0 k) c.args.counts.now, c.requires.1) in
    let narrow : 1 + c.args.width ≤ 9 = omega (arith, c.requires.0) in
    omega (arith, mul-le-mul few narrow)
