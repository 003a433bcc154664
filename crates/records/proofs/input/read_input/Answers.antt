-- What was read stands over the start of the list, and each read leaves less to fill. Assumes nothing.
use mathlib.Core.Path.{◌≡◌}
use Prim.Native.Nat.{ℕ, ◌-◌}
use native.Mathlib.Omega.{arith}
use lib.ListN.{length, length-take, length-drop}
use Rattle.records.proofs.Reading.{reading_none, reading_more, reading_all}
use Rattle.records.proofs.input.read_input.Goals as goal

pub loop-done-init : goal.loop-done-init
loop-done-init g c = reading_none _ _

pub loop-done-smaller : goal.loop-done-smaller
loop-done-smaller g c = omega arith

pub loop-done-preserved : goal.loop-done-preserved
loop-done-preserved g c =
    let read = c.in_ok-more.ensures in
    reading_more c.read.new.buf c.loop-done.invariant (omega (arith, c.read.auto.buf, length-take {A = ℕ}, length-drop {A = ℕ})) read.bound.0 read.bytes.0

pub returns-after-loop-done-clause-filled : goal.returns-after-loop-done-clause-filled
returns-after-loop-done-clause-filled g c = record { bytes = c.loop-done.invariant.bytes; ended = λ h. absurd (omega arith) }

pub returns-in-0-clause-filled : goal.returns-in-0-clause-filled
returns-in-0-clause-filled g c =
    let read = c.in_ok-more.ensures in
    let long : length c.read.new.buf ≡ length c.loop-done.bytes - c.loop-done.done = omega (arith, c.read.auto.buf, length-take {A = ℕ}, length-drop {A = ℕ}) in
    reading_all (reading_more c.read.new.buf c.loop-done.invariant long read.bound.0 read.bytes.0) c.in-0.is (read.bytes.1 c.in-0.is (omega arith))
