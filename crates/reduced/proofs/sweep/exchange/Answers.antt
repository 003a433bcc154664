-- The sets that are put are those of the exchange, and the two tests say whether one of them is another. Assumes nothing.
use native.Mathlib.Omega.{arith}
use Rattle.reduced.proofs.Changing.{put-inside, exchange-done}
use Rattle.reduced.proofs.sweep.exchange.Goals as goal

pub put_at-requires-2 : goal.put_at-requires-2
put_at-requires-2 c = put-inside c.put_at.ensures (omega arith)

pub returns : goal.returns
returns c =
    let done = exchange-done _ _ _ c.requires c.at-first.ensures c.at-second.ensures c.sum-sum.ensures c.smaller-swaps.ensures c.either.ensures
    c.put_at.ensures c.either-left.ensures c.smaller-puts.ensures c.either-2.ensures c.put_at-2.ensures in
    record { long = done.0; list = done.1.0; told = done.1.1 }
