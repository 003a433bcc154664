-- What a writer does to the lent list that it writes. Assumes nothing.
use Rattle.std.specs.Prelude.{◌≡◌, List, ℕ}
use Rattle.lent.specs.Appended.{Room, Appended}
use Rattle.lent.specs.declared.Writer.{Writer}

-- there is room for these items at its place
abbrev pub Fits : List ℕ → Writer → Type 0
Fits items writer = Room items writer.out.now writer.at

-- these items, for which there was room, are written at its place, which is then after them
pub record Writes (items : List ℕ) (before after : Writer) : Type 0 where
  pub room : Fits items before
  pub same : after.out.ghost_name ≡ before.out.ghost_name
  pub appended : Appended before.out.now before.at items after.out.now after.at
