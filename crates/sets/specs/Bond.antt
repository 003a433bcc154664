-- What a BondSet stands for: the set of bonds, as a number. Its one word holds bond k as digit k. Assumes nothing.
use Rattle.std.specs.Prelude.{ℕ, ◌<◌, ◌^◌}
use Rattle.sets.specs.declared.bond.BondSet.{BondSet}

-- the set of bonds that a BondSet stands for
abbrev pub bits : BondSet → ℕ
bits s = s.0

-- the set with no bond
abbrev pub no_bonds : BondSet
no_bonds = record { 0 = 0 }

-- the members are below this: LAST is one less
abbrev pub room : ℕ
room = 64

-- what the machine keeps of each BondSet: `search needs` shows it of a parameter and of a result, and `bond-lt` makes the bound of it
abbrev pub Held : BondSet → Type 0
Held s = s.0 < 2 ^ 64
