-- Of the sets' bytes, those of the first ones are written. Assumes nothing.
use mathlib.Core.Path.{ap}
use native.Mathlib.Omega.{arith}
use lib.ListN.{get_or}
use Rattle.sets.specs.Lists.{sets_in}
use Rattle.definitions.specs.Label.{bytes_of, set_bytes}
use Rattle.lent.proofs.Writing.{writes_as, strings_none, strings_room, strings_more, strings_all}
use Rattle.fields.proofs.Bytes.{length-bytes_of, bytes_of_all-gather}
use Rattle.sidecar.proofs.put_sets.Goals as goal

pub loop-i-init : goal.loop-i-init
loop-i-init c = strings_none _ _ (omega (arith, c.requires))

pub put_set-requires : goal.put_set-requires
put_set-requires c = let sets = sets_in c.args.sets.now in
    let i = c.loop-i.i in
    omega (arith, strings_room _ c.loop-i.invariant (omega arith) (bytes_of_all-gather set_bytes sets) c.requires, length-bytes_of set_bytes (get_or sets i 0))

pub loop-i-preserved : goal.loop-i-preserved
loop-i-preserved c = strings_more _ c.loop-i.invariant (writes_as c.put_set.ensures (ap (bytes_of set_bytes) c.at.ensures))

pub returns : goal.returns
returns c = strings_all _ c.loop-i.invariant (omega arith) (bytes_of_all-gather set_bytes (sets_in c.args.sets.now))
