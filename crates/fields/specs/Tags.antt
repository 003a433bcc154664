-- The tags of the fields. Assumes nothing.
use Rattle.std.specs.Prelude.{ℕ}
use Rattle.definitions.specs.Label.{frerejacque_tag, rings_tag, smallest_tag, assemblies_tag, sidecar_tag}
use Rattle.fields.specs.declared.field.Tag.{Tag}
use Rattle.fields.specs.declared.field.Tag.TheVariants.{Frerejacque, Rings, Smallest, Assemblies, Reduced}

-- the byte that says what a field holds
abbrev pub tag_byte : Tag → ℕ
tag_byte Frerejacque = frerejacque_tag
tag_byte Rings = rings_tag
tag_byte Smallest = smallest_tag
tag_byte Assemblies = assemblies_tag
tag_byte Reduced = sidecar_tag
