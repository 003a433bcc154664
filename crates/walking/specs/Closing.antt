-- The test of a ring by walking: from its lowest bond one comes back after as many bonds as the set has. Assumes nothing.
use Rattle.std.specs.Prelude.{Bool, false, ◌&&◌, cond, ℕ, zero, suc, eqb}
use Rattle.sets.specs.Bits.{size}
use Rattle.definitions.specs.Table.{Table}
use Rattle.definitions.specs.Ring.{degree}
use Rattle.definitions.specs.Walk.{onward, walk_start}

-- with n bonds left to go from a place: each atom that is reached has two bonds of the set s, that by which it is reached and one other, and
-- atom a is reached by the last bond and not before
unfoldable pub closes? : Table → ℕ → ℕ → ℕ → ℕ × ℕ → Bool
closes? M s a zero p = false
closes? M s a (suc n) p =
    let q = onward M s p in
    eqb (degree M s q.0) 2 && cond (eqb q.0 a) (eqb n 0) (closes? M s a n q)

-- the walk from the lowest bond is back at its start after as many bonds as the set has
unfoldable pub walks? : Table → ℕ → Bool
walks? M s = closes? M s (walk_start M s).0 (size s) (walk_start M s)
