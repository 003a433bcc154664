-- What a RingSet stands for: the set of basis rings, as a number. In 000 such a set is a superset. Assumes nothing.
use Rattle.std.specs.Prelude.{ℕ, ◌<◌, ◌^◌}
use Rattle.sets.specs.declared.ring.RingSet.{RingSet}

-- the set of basis rings that a RingSet stands for
abbrev pub bits : RingSet → ℕ
bits s = s.0

-- the set with no basis ring
abbrev pub no_rings : RingSet
no_rings = record { 0 = 0 }

-- the members are below this: LAST is one less
abbrev pub room : ℕ
room = 64

-- what the machine keeps of each RingSet: `search needs` shows it of a parameter and of a result, and `ring-lt` makes the bound of it
abbrev pub Held : RingSet → Type 0
Held s = s.0 < 2 ^ 64
