-- How long a label is. Assumes nothing.
use mathlib.Core.Path.{◌≡◌}
use mathlib.Core.List.{List, [], ◌∷◌, ◌++◌}
use Prim.Native.Nat.{ℕ, ◌+◌, ◌*◌}
use native.Mathlib.Omega.{arith}
use lib.ListN.{length, length-append}
use Rattle.definitions.specs.Label.{bytes_of_all, field, frerejacque_tag, rings_tag, smallest_tag, assemblies_tag}
use Rattle.fields.proofs.Bytes.{length-bytes_of_all}
use Rattle.fields.proofs.Tagging.{length-field}
use Rattle.labels.specs.Text.{fields_of}

-- the fields are as long as their parts and 13 bytes more: four heads and the Frerejacque number
pub length-fields_of : (number : ℕ) (rings smallest pairs : List ℕ)
    → 13 + length rings + length smallest + 2 * length pairs ≡ length (fields_of number rings smallest pairs)
length-fields_of number rings smallest pairs =
    let first : List ℕ = field frerejacque_tag (bytes_of_all 1 (number ∷ [])) in
    let second : List ℕ = field rings_tag rings in
    let third : List ℕ = field smallest_tag smallest in
    let fourth : List ℕ = field assemblies_tag (bytes_of_all 2 pairs) in
    omega (
      arith,
      length-append first (second ++ (third ++ fourth)),
      length-append second (third ++ fourth),
      length-append third fourth,
      length-field frerejacque_tag (bytes_of_all 1 (number ∷ [])),
      length-field rings_tag rings,
      length-field smallest_tag smallest,
      length-field assemblies_tag (bytes_of_all 2 pairs),
      length-bytes_of_all 1 (number ∷ []),
      length-bytes_of_all 2 pairs,
    )
