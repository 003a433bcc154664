-- `sets::word::below` meets its contract: a shifted 1 is a power where it fits, and one less has all digits below. Assumes nothing.
use mathlib.Core.Path.{◌≡◌, ap}
use Prim.Native.Nat.{ℕ, ◌-◌, ◌^◌, min}
use native.Mathlib.Omega.{arith}
use borrow.Author.Rules.{rules}
use Rattle.sets.specs.Bits.{all_below}
use Rattle.sets.proofs.Machine.{one_shl}
use Rattle.sets.proofs.word.below.Goals as goal

pub returns-then-n-lt-SIZE : goal.returns-then-n-lt-SIZE
unfolding all_below
returns-then-n-lt-SIZE c = rw (one_shl 64 c.args.n (search rules)) (ap (λ (m : ℕ). 2 ^ m - 1) (omega arith))

pub returns-else-n-lt-SIZE : goal.returns-else-n-lt-SIZE
unfolding all_below
returns-else-n-lt-SIZE c = ap (λ (m : ℕ). 2 ^ m - 1) (let e : 64 ≡ min c.args.n 64 = omega arith in e)
