-- What the steps that collect the assemblies and write their numbers do. Assumes nothing.
use Rattle.std.specs.Prelude.{◌≡◌, Bool, true, false, ◌&&◌, not, cond, List, ℕ, ◌<◌, length, get_or}
use Rattle.std.specs.Int.Bits.{bit_or}
use Rattle.sets.specs.Bits.{has, Sub, meet, put, without}
use Rattle.sets.specs.Bond as bond
use Rattle.sets.specs.Ring as ring
use Rattle.definitions.specs.Assembly.{Linked}
use Rattle.basis.specs.declared.assembly.Cluster.{Cluster}

-- a set of basis rings, the bonds of these rings, and the set of the rings that are left
pub record Group : Type 0 where
  pub members : ℕ
  pub bonds : ℕ
  pub left : ℕ

-- what a Cluster stands for
abbrev pub group_of : Cluster → Group
group_of c = record { members = ring.bits c.members; bonds = bond.bits c.bonds; left = ring.bits c.left }

-- ring i joins where it shares a bond
abbrev pub joined_by : Group → ℕ → ℕ → Group
joined_by g i s =
    cond (meet s g.bonds) (record { members = put ring.room g.members i; bonds = bit_or g.bonds s; left = without g.left i }) g

-- of the basis rings rs those of `all` are looked at: the group's are linked with the first, and the others are left
pub record Grouped (rs : List ℕ) (first all : ℕ) (g : Group) : Type 0 where
  pub inside : (i : ℕ) → has all i ≡ true → i < length rs
  pub start : has g.members first ≡ true
  pub member : (i : ℕ) → has g.members i ≡ true → (has all i ≡ true) × Linked rs first i × Sub (get_or rs i 0) g.bonds
  pub bond : (k : ℕ) → has g.bonds k ≡ true → (i : ℕ) × (has g.members i ≡ true) × (has (get_or rs i 0) k ≡ true)
  pub other : (i : ℕ) → has g.left i ≡ has all i && not (has g.members i)

-- no ring that is left shares a bond with the group
abbrev pub Apart : List ℕ → Group → Type 0
Apart rs g = (i : ℕ) → has g.left i ≡ true → meet (get_or rs i 0) g.bonds ≡ false

-- one pass over the rings left: it makes a group of the same first ring, and where it adds nothing no ring left shares a bond
pub record Pass (rs : List ℕ) (g h : Group) : Type 0 where
  pub kept : (first all : ℕ) → Grouped rs first all g → Grouped rs first all h
  pub fewer : Sub h.left g.left
  pub done : h.left ≡ g.left → Apart rs h

-- in a list f i is written at each place i that passes, and the other places are as they were
pub record Numbered (p : ℕ → Bool) (f : ℕ → ℕ) (before after : List ℕ) : Type 0 where
  pub long : length after ≡ length before
  pub at : (i : ℕ) → get_or after i 0 ≡ cond (p i) (f i) (get_or before i 0)
