-- The byte is stored at the place. Assumes nothing.
use mathlib.Core.Path.{refl}
use native.Mathlib.Omega.{arith}
use Rattle.lent.proofs.Appending.{appended_byte}
use Rattle.lent.proofs.Writer.byte.Goals as goal

pub returns : goal.returns
returns c = record { room = omega (arith, c.requires); same = refl; appended = appended_byte _ _ _ c.requires }
