-- What the program prints, computed of its definition: two records, no input, a record cut short. Assumes nothing.
use mathlib.Core.Path.{◌≡◌, refl}
use mathlib.Core.List.{[], ◌∷◌}
use lib.Count.{ones, ones_in}
use Rattle.sets.specs.Bits.{has, with, without}
use Rattle.definitions.specs.Search.{every, some?, count, listed, set_of, gather, keep, total, union_of, insert, sort}
use Rattle.definitions.specs.Table.{seen_before?, first_of, refusal}
use Rattle.definitions.specs.Ring.{degree, even?, ring?}
use Rattle.definitions.specs.Basis.{merge, classes, ends_below, fragments, closure?, forest, basis_ring, basis_rings}
use Rattle.definitions.specs.Fragment.{fragment_of, fragment_count}
use Rattle.definitions.specs.Assembly.{sharing, leaders, rank, assemblies_of, assembly_count, rings_in, assemblies, tangled?}
use Rattle.definitions.specs.AllRings.{before, all_rings}
use Rattle.definitions.specs.Smallest.{chosen, sum?, taking, smallest_basis}
use Rattle.definitions.specs.Reduced.{exchange, along, across, same?, sweeps, weight, reduced, reduced_basis}
use Rattle.definitions.specs.Label.{bytes_of, bytes_of_all, field, occurs, histogram, frerejacque, pair_of, assembly_pairs, label_of}
use Rattle.definitions.specs.Answer.{refusal_of_rings}
use Rattle.definitions.specs.Text.{decimal_in, decimal, hex}
use Rattle.definitions.specs.Records.{whole?}
use Rattle.definitions.specs.Ringline.{end_line, frame_line, label_text, record_line, lines_of, ringline}

-- a triangle, and a bond that joins an atom to itself
two_records : ringline (0x10 ∷ 0x00 ∷ 0x01 ∷ 0x03 ∷ 0x11 ∷ 0x00 ∷ 0x06 ∷ 0x00 ∷ 0x01 ∷ 0x01 ∷ 0x02 ∷ 0x02 ∷ 0x00 ∷ 0x10 ∷ 0x00 ∷ 0x01 ∷ 0x02 ∷ 0x11 ∷ 0x00 ∷ 0x02 ∷ 0x00 ∷ 0x00 ∷ []) ≡ 114 ∷ 105 ∷ 110 ∷ 103 ∷ 115 ∷ 32 ∷ 49 ∷ 10 ∷ 49 ∷ 32 ∷ 48 ∷ 32 ∷ 48 ∷ 49 ∷ 48 ∷ 48 ∷ 48 ∷ 49 ∷ 48 ∷ 49 ∷ 48 ∷ 50 ∷ 48 ∷ 48 ∷ 48 ∷ 51 ∷ 48 ∷ 51 ∷ 48 ∷ 48 ∷ 48 ∷ 49 ∷ 48 ∷ 51 ∷ 48 ∷ 48 ∷ 48 ∷ 50 ∷ 48 ∷ 51 ∷ 48 ∷ 49 ∷ 48 ∷ 52 ∷ 48 ∷ 48 ∷ 48 ∷ 50 ∷ 48 ∷ 49 ∷ 48 ∷ 51 ∷ 10 ∷ 50 ∷ 32 ∷ 53 ∷ 32 ∷ 45 ∷ 10 ∷ 101 ∷ 110 ∷ 100 ∷ 32 ∷ 50 ∷ 10 ∷ []
unfolding every some? count listed set_of gather keep total union_of insert sort seen_before? first_of refusal degree even? ring? merge classes ends_below fragments closure? forest basis_ring basis_rings sharing leaders rank assemblies_of assembly_count rings_in assemblies tangled? before all_rings chosen sum? taking smallest_basis exchange along across same? sweeps weight reduced reduced_basis bytes_of bytes_of_all field occurs histogram fragment_of fragment_count frerejacque pair_of assembly_pairs label_of refusal_of_rings has with without ones ones_in decimal_in decimal hex end_line frame_line label_text record_line whole? lines_of ringline
two_records = refl

-- `rings 1` and `end 0`
no_input : ringline [] ≡ 114 ∷ 105 ∷ 110 ∷ 103 ∷ 115 ∷ 32 ∷ 49 ∷ 10 ∷ 101 ∷ 110 ∷ 100 ∷ 32 ∷ 48 ∷ 10 ∷ []
unfolding every some? count listed set_of gather keep total union_of insert sort seen_before? first_of refusal degree even? ring? merge classes ends_below fragments closure? forest basis_ring basis_rings sharing leaders rank assemblies_of assembly_count rings_in assemblies tangled? before all_rings chosen sum? taking smallest_basis exchange along across same? sweeps weight reduced reduced_basis bytes_of bytes_of_all field occurs histogram fragment_of fragment_count frerejacque pair_of assembly_pairs label_of refusal_of_rings has with without ones ones_in decimal_in decimal hex end_line frame_line label_text record_line whole? lines_of ringline
no_input = refl

-- `rings 1` and `1 frame`
cut_short : ringline (0x10 ∷ 0x00 ∷ []) ≡ 114 ∷ 105 ∷ 110 ∷ 103 ∷ 115 ∷ 32 ∷ 49 ∷ 10 ∷ 49 ∷ 32 ∷ 102 ∷ 114 ∷ 97 ∷ 109 ∷ 101 ∷ 10 ∷ []
unfolding every some? count listed set_of gather keep total union_of insert sort seen_before? first_of refusal degree even? ring? merge classes ends_below fragments closure? forest basis_ring basis_rings sharing leaders rank assemblies_of assembly_count rings_in assemblies tangled? before all_rings chosen sum? taking smallest_basis exchange along across same? sweeps weight reduced reduced_basis bytes_of bytes_of_all field occurs histogram fragment_of fragment_count frerejacque pair_of assembly_pairs label_of refusal_of_rings has with without ones ones_in decimal_in decimal hex end_line frame_line label_text record_line whole? lines_of ringline
cut_short = refl
