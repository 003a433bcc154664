-- A refusal is passed on; else the assemblies' rings are reduced one assembly after another. Assumes nothing.
use Rattle.sets.proofs.Lists.{sets-blank}
use Rattle.definitions.specs.Table.{max_bonds}
use Rattle.reduced.proofs.Reducing.{picked_fits, reduces_accepted}
use Rattle.reduced.proofs.reduce.Goals as goal

pub reduce_all-requires : goal.reduce_all-requires
reduce_all-requires c = picked_fits c.in_ok-basis.ensures.rings c.assemblies_of-assemblies.ensures _ (sets-blank max_bonds)

pub returns : goal.returns
returns c = let basis = c.in_ok-basis.ensures in
    reduces_accepted basis.rings c.assemblies_of-assemblies.ensures basis.number _ _ (sets-blank max_bonds) c.reduce_all.ensures.list
