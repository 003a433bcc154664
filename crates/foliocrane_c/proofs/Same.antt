-- What is asked of a caller in C and ensured to it is what the face asks and ensures, function by function: the preconditions are one, and so
-- are the postconditions. So the demands, which are theorems over the face's, are met by what is exported.
use Rattle.std.proofs.Common.{refl, ◌≡◌}
use Rattle.foliocrane.proofs.foliocrane_check.Reads as face_check
use Rattle.foliocrane_c.proofs.foliocrane_check.Reads as check
use Rattle.foliocrane.proofs.foliocrane_basis_rings.Reads as face_basis_rings
use Rattle.foliocrane_c.proofs.foliocrane_basis_rings.Reads as basis_rings
use Rattle.foliocrane.proofs.foliocrane_assemblies.Reads as face_assemblies
use Rattle.foliocrane_c.proofs.foliocrane_assemblies.Reads as assemblies
use Rattle.foliocrane.proofs.foliocrane_all_rings.Reads as face_all_rings
use Rattle.foliocrane_c.proofs.foliocrane_all_rings.Reads as all_rings
use Rattle.foliocrane.proofs.foliocrane_smallest_basis.Reads as face_smallest_basis
use Rattle.foliocrane_c.proofs.foliocrane_smallest_basis.Reads as smallest_basis
use Rattle.foliocrane.proofs.foliocrane_reduced_basis.Reads as face_reduced_basis
use Rattle.foliocrane_c.proofs.foliocrane_reduced_basis.Reads as reduced_basis
use Rattle.foliocrane.proofs.foliocrane_ring_walk.Reads as face_ring_walk
use Rattle.foliocrane_c.proofs.foliocrane_ring_walk.Reads as ring_walk
use Rattle.foliocrane.proofs.foliocrane_label.Reads as face_label
use Rattle.foliocrane_c.proofs.foliocrane_label.Reads as label
use Rattle.foliocrane.proofs.foliocrane_sidecar.Reads as face_sidecar
use Rattle.foliocrane_c.proofs.foliocrane_sidecar.Reads as sidecar

pub check_same : (check.Pre ≡ face_check.Pre) × (check.Post ≡ face_check.Post)
check_same = (refl, refl)

pub basis_rings_same : (basis_rings.Pre ≡ face_basis_rings.Pre) × (basis_rings.Post ≡ face_basis_rings.Post)
basis_rings_same = (refl, refl)

pub assemblies_same : (assemblies.Pre ≡ face_assemblies.Pre) × (assemblies.Post ≡ face_assemblies.Post)
assemblies_same = (refl, refl)

pub all_rings_same : (all_rings.Pre ≡ face_all_rings.Pre) × (all_rings.Post ≡ face_all_rings.Post)
all_rings_same = (refl, refl)

pub smallest_basis_same : (smallest_basis.Pre ≡ face_smallest_basis.Pre) × (smallest_basis.Post ≡ face_smallest_basis.Post)
smallest_basis_same = (refl, refl)

pub reduced_basis_same : (reduced_basis.Pre ≡ face_reduced_basis.Pre) × (reduced_basis.Post ≡ face_reduced_basis.Post)
reduced_basis_same = (refl, refl)

pub ring_walk_same : (ring_walk.Pre ≡ face_ring_walk.Pre) × (ring_walk.Post ≡ face_ring_walk.Post)
ring_walk_same = (refl, refl)

pub label_same : (label.Pre ≡ face_label.Pre) × (label.Post ≡ face_label.Post)
label_same = (refl, refl)

pub sidecar_same : (sidecar.Pre ≡ face_sidecar.Pre) × (sidecar.Post ≡ face_sidecar.Post)
sidecar_same = (refl, refl)
