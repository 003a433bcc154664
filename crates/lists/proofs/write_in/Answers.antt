-- What is wanted of the rings in order is written. Assumes nothing.
use native.Mathlib.Omega.{arith}
use mathlib.Core.Path.{sym, subst, ◌∙◌}
use mathlib.Core.List.{List}
use Prim.Native.Nat.{ℕ}
use Rattle.ordering.proofs.Firsts.{firsts, firsts_room}
use Rattle.lists.proofs.Laws.{listable_held}
use borrow.Author.Rules.{rules}
use Rattle.lists.proofs.write_in.Goals as goal

pub list_rings-all-requires : goal.list_rings-all-requires
list_rings-all-requires g c = search (rules, listable_held)

pub shared_whole_as_front-write : goal.shared_whole_as_front-write
shared_whole_as_front-write g c = (omega (arith, firsts_room c.list_rings-all.result _ c.list_rings-all.ensures.few), omega arith)

pub write-requires : goal.write-requires
write-requires g c = let listed = c.list_rings-all.ensures in
    subst (λ (rings : List ℕ). g.W.Wanted.can_choose c.args.wanted rings) (sym (firsts c.list_rings-all.result _ listed.few ∙ listed.list)) c.requires.1

pub returns : goal.returns
returns g c = let listed = c.list_rings-all.ensures in rw (firsts c.list_rings-all.result _ listed.few, listed.list) at c.write.ensures
