-- What is picked of the basis rings by the sets of the assemblies, each reduced, is the reduced basis; what a Reduced holds. Assumes nothing.
use mathlib.Core.Path.{◌≡◌, sym, ap, ap₂, ◌∙◌}
use mathlib.Core.List.{List}
use Prim.Native.Nat.{ℕ, ◌≤◌}
use native.Mathlib.Omega.{arith}
use lib.ListN.{length, take, drop, replicate, length-append, length-replicate}
use lib.Seq.{take-append_seam}
use Rattle.sets.specs.Lists.{sets_in}
use Rattle.definitions.specs.Search.{gather}
use Rattle.definitions.specs.Table.{Table, refusal, max_bonds}
use Rattle.definitions.specs.Basis.{basis_rings}
use Rattle.definitions.specs.Assembly.{assembly_count, rings_in}
use Rattle.definitions.specs.Answer.{over}
use Rattle.definitions.specs.Reduced.{reduced, reduced_basis}
use Rattle.definitions.proofs.Linking.{length_assembled}
use Rattle.basis.specs.declared.basis.Basis.{Basis}
use Rattle.basis.specs.Held.{rings_of, Holds, members_of, held_count, AssembliesOf}
use Rattle.basis.specs.declared.found.Assemblies.{Assemblies}
use Rattle.basis.proofs.Holding.{held_assemblies, picked_all}
use Rattle.reduced.specs.Picked.{picked_by}
use Rattle.std.proofs.Common.{Ok}
use Rattle.reduced.specs.Reduces.{Reduces}
use Rattle.reduced.specs.declared.Reduced.{Reduced}
use Rattle.reduced.proofs.Gathering.{gather-reduced-length}

-- the reduced basis has as many sets as there are basis rings
pub reduced-counted : (M : Table) {n : ℕ} → n ≡ length (basis_rings M) → n ≡ length (reduced_basis M)
unfolding reduced_basis
reduced-counted M e = e ∙ sym (gather-reduced-length (assembly_count (basis_rings M)) (rings_in (basis_rings M)) ∙ length_assembled (basis_rings M))

module _ {M : Table} {b : Basis} {s : Assemblies} (basis : Holds M b) (parts : AssembliesOf (rings_of b) s) where
  -- what is picked fits where there is a place for each bond
  pub picked_fits : (blank : List ℕ) → sets_in blank ≡ replicate max_bonds 0
      → length (gather (held_count s) (picked_by (sets_in b.rings) (members_of s))) ≤ length (sets_in blank)
  picked_fits blank none =
      let places : length (sets_in blank) ≡ max_bonds = ap length none ∙ length-replicate {A = ℕ} max_bonds 0 in
      let all = ap length (picked_all basis (held_assemblies basis parts) (λ (l : List ℕ). l)) ∙ length_assembled (basis_rings M) in
      omega (arith, all, basis.count, basis.counted)

  -- each reduced, they are the reduced basis
  picked-reduced : gather (held_count s) (λ a. reduced (picked_by (sets_in b.rings) (members_of s) a)) ≡ reduced_basis M
  unfolding reduced_basis
  picked-reduced = picked_all basis (held_assemblies basis parts) reduced

  -- an accepted table: the reduced basis is handed back
  pub reduces_accepted : 0 ≡ refusal M → (blank ws : List ℕ) → sets_in blank ≡ replicate max_bonds 0
      → sets_in ws ≡ over (gather (held_count s) (λ a. reduced (picked_by (sets_in b.rings) (members_of s) a))) (sets_in blank)
      → Reduces M (Ok (record { sets = ws; count = b.count }))
  reduces_accepted given blank ws none list = record { number = given; count = reduced-counted M basis.count; sets = list ∙ ap₂ over picked-reduced none }

-- ---- what is handed back of an accepted table

module _ {M : Table} {r : Reduced} (h : Reduces M (Ok r)) where
  -- the sets that are counted are there
  pub reduces_room : r.count ≤ length (sets_in r.sets)
  unfolding over
  reduces_room = omega (arith, h.count, ap length h.sets ∙ length-append (reduced_basis M) (drop (length (reduced_basis M)) (replicate max_bonds 0)))

  -- and are the reduced basis
  pub reduces_sets : take r.count (sets_in r.sets) ≡ reduced_basis M
  unfolding over
  reduces_sets = ap₂ take h.count h.sets ∙ take-append_seam (reduced_basis M) (drop (length (reduced_basis M)) (replicate max_bonds 0))
