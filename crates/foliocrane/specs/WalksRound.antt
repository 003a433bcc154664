-- The walk round a ring: what is given, and which sets are refused. Assumes nothing.
use Rattle.std.specs.Prelude.{◌≡◌, ◌↔◌, ℕ}
use Rattle.sets.specs.Bits.{size}
use Rattle.definitions.specs.Table.{refusal, NOTRING}
use Rattle.definitions.specs.Ring.{Ring}
use Rattle.definitions.specs.Sentences.{NoRing}
use Rattle.walking.specs.OneWalk.{OneWalk}
use Rattle.foliocrane.specs.Call.{Call, table_in, bytes_given}

-- the set s is walked round: c is the call as it is seen for the atoms, d for the bonds
pub record WalksRound (s : ℕ) (c d : Call) : Type 0 where
  -- without a refusal the set is a ring, so many are counted as it has bonds, and what is given is its walk
  pub ring : c.number ≡ 0 → Ring (table_in c) s
  pub long : c.number ≡ 0 → c.count ≡ size s
  pub walk : c.number ≡ 0 → OneWalk (table_in c) s (bytes_given c) (bytes_given d)
  -- and 9 is told exactly if the table is accepted and the set is no ring of it
  pub no_ring : (c.number ≡ NOTRING) ↔ ((refusal (table_in c) ≡ 0) × NoRing (table_in c) s)
