-- `lookup::found` meets its contract: the part from where the search ends to where the run ends. Assumes nothing.
use native.Mathlib.Omega.{arith}
use Rattle.sets.specs.Lists.{sets_in}
use Rattle.lookup.proofs.Laws.{start-le, found-room, part-found}
use Rattle.lookup.proofs.found.Goals as goal

pub run_end-end-requires : goal.run_end-end-requires
run_end-end-requires c = omega (arith, c.run_start-start.ensures, start-le c.args.size (sets_in c.args.list.now))

pub offset_bounds-list-start : goal.offset_bounds-list-start
offset_bounds-list-start c = omega (arith, found-room _ _ c.run_start-start.ensures c.run_end-end.ensures)

pub slice_bounds-result-end : goal.slice_bounds-result-end
slice_bounds-result-end c = omega (arith, found-room _ _ c.run_start-start.ensures c.run_end-end.ensures)

pub returns : goal.returns
returns c = part-found _ _ c.run_start-start.ensures c.run_end-end.ensures
