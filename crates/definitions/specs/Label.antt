-- The label and the sidecar, made of fields: a tag in one byte, the length of the content in two, then the content. A number that takes
-- several bytes starts with the high one. Assumes nothing.
use Rattle.std.specs.Prelude.{true, false, List, [], ◌∷◌, ◌++◌, map, ℕ, zero, suc, ◌+◌, ◌-◌, ◌*◌, ◌/◌, ◌%◌, length, eqb, ltb}
use Rattle.sets.specs.Bits.{size}
use Rattle.definitions.specs.Search.{gather, keep, sort, union_of}
use Rattle.definitions.specs.Table.{Table, bonds, all_sizes}
use Rattle.definitions.specs.Basis.{basis_rings}
use Rattle.definitions.specs.Fragment.{fragment_count}
use Rattle.definitions.specs.Assembly.{assembly_count, rings_in}
use Rattle.definitions.specs.AllRings.{all_rings}
use Rattle.definitions.specs.Smallest.{smallest_basis}
use Rattle.definitions.specs.Reduced.{reduced_basis}

-- a number in n bytes, high byte first
unfoldable pub bytes_of : ℕ → ℕ → List ℕ
bytes_of zero x = []
bytes_of (suc n) x = bytes_of n (x / 256) ++ ((x % 256) ∷ [])

-- each number of a list in n bytes
unfoldable pub bytes_of_all : ℕ → List ℕ → List ℕ
bytes_of_all n [] = []
bytes_of_all n (x ∷ l) = bytes_of n x ++ bytes_of_all n l

-- the field with a tag and a content
unfoldable pub field : ℕ → List ℕ → List ℕ
field tag content = tag ∷ (bytes_of 2 (length content) ++ content)

-- how many numbers of a list are z
unfoldable pub occurs : ℕ → List ℕ → ℕ
occurs z l = length (keep (λ x. eqb x z) l)

-- the sizes that occur among sets, small to large: a byte for each, and n bytes for how many sets have it
unfoldable pub histogram : ℕ → List ℕ → List ℕ
histogram n sets =
    let sizes = map size sets in
    gather all_sizes (λ z. let k = occurs z sizes in elim (eqb k 0) [ true ↦ [] | false ↦ z ∷ bytes_of n k ])

-- the Frerejacque number: bonds - atoms + fragments, with the atoms taken away last, since there may be more of them than bonds
unfoldable pub frerejacque : Table → ℕ
frerejacque M = bonds M + fragment_count M - M.atoms

-- what the label says of an assembly: how many basis rings it has, and how many bonds these have together. As one number, with the first in
-- the high byte, so that numbers rise as such pairs do
unfoldable pub pair_of : List ℕ → ℕ
pair_of rings = length rings * 256 + size (union_of rings)

-- the pairs of all assemblies, rising
unfoldable pub assembly_pairs : Table → List ℕ
assembly_pairs M = let rs = basis_rings M in sort ltb (gather (assembly_count rs) (λ a. pair_of (rings_in rs a) ∷ []))

-- the tag of the field with the Frerejacque number
abbrev pub frerejacque_tag : ℕ
frerejacque_tag = 0x01

-- that of all rings by size
abbrev pub rings_tag : ℕ
rings_tag = 0x02

-- that of the smallest basis by size
abbrev pub smallest_tag : ℕ
smallest_tag = 0x03

-- that of the assemblies
abbrev pub assemblies_tag : ℕ
assemblies_tag = 0x04

-- the label: all its fields in order of their tags, empty ones too
unfoldable pub label_of : Table → List ℕ
label_of M =
    field frerejacque_tag (frerejacque M ∷ [])
    ++ (field rings_tag (histogram 2 (all_rings M))
    ++ (field smallest_tag (histogram 1 (smallest_basis M))
    ++ field assemblies_tag (bytes_of_all 2 (assembly_pairs M))))

-- the tag of a sidecar
abbrev pub sidecar_tag : ℕ
sidecar_tag = 0x20

-- the bytes that a set takes in it
abbrev pub set_bytes : ℕ
set_bytes = 8

-- the sidecar: a field by itself with the reduced basis
unfoldable pub sidecar_of : Table → List ℕ
sidecar_of M = field sidecar_tag (bytes_of_all set_bytes (reduced_basis M))
