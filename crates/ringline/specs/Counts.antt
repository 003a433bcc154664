-- How much of a list is used. Assumes nothing.
use Rattle.std.specs.Prelude.{◌≡◌, List, ℕ, ◌≤◌, length, take}

-- a list has n items at least, and its first n are n items
abbrev pub IsPrefixLen : ℕ → List ℕ → Type 0
IsPrefixLen n list = (n ≤ length list) × (n ≡ length (take n list))
