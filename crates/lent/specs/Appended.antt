-- A lent list that is written from a place on: each step writes at a place and gives the next. Assumes nothing.
use Rattle.std.specs.Prelude.{◌≡◌, List, ◌++◌, ℕ, ◌+◌, ◌≤◌, length, take, drop}

-- there is room for these items from the place `at` on
abbrev pub Room : List ℕ → List ℕ → ℕ → Type 0
Room items list at = at + length items ≤ length list

-- the list `before` with the items over it from the place `at` on is the list `after`, and the items end where `next` is
pub record Appended (before : List ℕ) (at : ℕ) (items after : List ℕ) (next : ℕ) : Type 0 where
  pub end : next ≡ at + length items
  pub list : after ≡ take at before ++ (items ++ drop next before)

-- the items of a list from one place up to another
abbrev pub between : ℕ → ℕ → List ℕ → List ℕ
between from to l = drop from (take to l)
