-- The rings of the assembly are found and counted, then those of its smallest basis. Assumes nothing.
use mathlib.Core.Path.{refl, ◌∙◌}
use native.Mathlib.Omega.{arith}
use Rattle.sets.proofs.Lists.{sets-length, sets-whole}
use Rattle.sets.proofs.Machine.{ring-lt}
use Rattle.definitions.specs.Table.{max_bonds}
use Rattle.ordering.proofs.Firsts.{firsts, firsts_long, firsts_room, firsts_words, firsts_ordered}
use Rattle.rings.proofs.Tallying.{countable_less, as_many-sets, alone_room, alone_within, alone_few, alone_choosable, both_chosen}
use borrow.Author.Rules.{rules}
use Rattle.rings.proofs.histograms.Histograms.count_assembly.Goals as goal

pub add_assembly-n-requires : goal.add_assembly-n-requires
add_assembly-n-requires c = let (found, ordered, free) = c.requires in (rw (sets-length _) ordered.room, rw (sets-length _) (alone_room found))

pub slice_bounds-all_found-end : goal.slice_bounds-all_found-end
slice_bounds-all_found-end c = let record { sums = kept; found = long; added = added } = c.add_assembly-n.ensures in
    firsts_room c.add_assembly-n.result _ (alone_within c.requires.0 added (as_many-sets _ long))

pub slice_bounds-all_found-end-2 : goal.slice_bounds-all_found-end-2
slice_bounds-all_found-end-2 c = let record { sums = kept; found = long; added = added } = c.add_assembly-n.ensures in
    firsts_words c.add_assembly-n.result _ (alone_within c.requires.0 added (as_many-sets _ long))

pub slice_bounds-in_order-end : goal.slice_bounds-in_order-end
slice_bounds-in_order-end c = let record { sums = kept; found = long; added = added } = c.add_assembly-n.ensures in
    firsts_room c.add_assembly-n.result _ (alone_within c.requires.1 added (as_many-sets _ (c.order_rings.ensures.0 ∙ kept)))

pub slice_bounds-in_order-end-2 : goal.slice_bounds-in_order-end-2
slice_bounds-in_order-end-2 c = let record { sums = kept; found = long; added = added } = c.add_assembly-n.ensures in
    firsts_words c.add_assembly-n.result _ (alone_within c.requires.1 added (as_many-sets _ (c.order_rings.ensures.0 ∙ kept)))

pub count_sizes-self-requires : goal.count_sizes-self-requires
count_sizes-self-requires c = let record { sums = kept; found = long; added = added } = c.add_assembly-n.ensures in
    let (found, ordered, free) = c.requires in
    countable_less free.all (omega (arith, alone_few found added, firsts_long c.add_assembly-n.result _ (alone_within found added (as_many-sets _ long))))

pub order_rings-requires : goal.order_rings-requires
order_rings-requires c = let record { sums = kept; found = long; added = added } = c.add_assembly-n.ensures in
    let (found, ordered, free) = c.requires in
    omega (arith, firsts_long c.add_assembly-n.result _ (alone_within found added (as_many-sets _ long)), alone_within ordered added (as_many-sets _ kept))

pub smallest_of-chosen-requires : goal.smallest_of-chosen-requires
smallest_of-chosen-requires c = let (same, list) = c.order_rings.ensures in
    let record { sums = kept; found = long; added = added } = c.add_assembly-n.ensures in
    let (found, ordered, free) = c.requires in
    let n = c.add_assembly-n.result in
    let sorted = firsts_ordered n _ (alone_within found added (as_many-sets _ long)) _ list in
    alone_choosable ordered added (ring-lt c.args.assembly.members (search rules)) c.size.ensures.0
    (firsts n _ (alone_within ordered added (as_many-sets _ (same ∙ kept))) ∙ sorted) (sets-whole max_bonds _ refl)

pub count_sizes-self-requires-2 : goal.count_sizes-self-requires-2
count_sizes-self-requires-2 c = let s = c.smallest_of-chosen.ensures in
    let (found, ordered, free) = c.requires in
    countable_less free.smallest (omega (arith, s.few, firsts_long c.smallest_of-chosen.result c.smallest_of-chosen.new.taken (omega (arith, s.few, s.long))))

pub returns : goal.returns
returns c = let (same, list) = c.order_rings.ensures in
    let record { sums = kept; found = long; added = added } = c.add_assembly-n.ensures in
    let (found, ordered, free) = c.requires in
    let n = c.add_assembly-n.result in
    let s = c.smallest_of-chosen.ensures in
    let held = alone_within found added (as_many-sets _ long) in
    both_chosen added (firsts n _ held) c.count_sizes-self.ensures
    (firsts n _ (alone_within ordered added (as_many-sets _ (same ∙ kept))) ∙ firsts_ordered n _ held _ list) s
    (firsts c.smallest_of-chosen.result c.smallest_of-chosen.new.taken (omega (arith, s.few, s.long))) c.count_sizes-self-2.ensures
