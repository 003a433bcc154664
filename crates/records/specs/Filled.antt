-- A list that an input is read into. Assumes nothing.
use Rattle.std.specs.Prelude.{List, ℕ, ◌<◌, Option, length, take}
use Rattle.std.specs.Io.KnownBytes.{Consumes, IsAtEnd}

-- of an input whose bytes are known, the first n of the list come next, and where there is room for more it has ended
pub record Filled (before after : Option (List ℕ)) (list : List ℕ) (n : ℕ) : Type 0 where
  pub bytes : Consumes before after (take n list)
  pub ended : n < length list → IsAtEnd after
