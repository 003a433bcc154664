-- What is found in a list is empty exactly where no set of it has that size. Assumes nothing.
use Rattle.lookup.proofs.Laws.{of_first, of_second, of_neither}
use Rattle.lookup.proofs.of_size.Goals as goal

pub returns-then-not-is_empty-clause-part : goal.returns-then-not-is_empty-clause-part
returns-then-not-is_empty-clause-part c = of_first _ _ _ c.found-in_first.ensures c.if-not-is_empty.ensures

pub returns-then-not-is_empty-2-clause-part : goal.returns-then-not-is_empty-2-clause-part
returns-then-not-is_empty-2-clause-part c = of_second _ _ _ c.found-in_first.ensures c.if-not-is_empty.ensures c.found-in_second.ensures c.if-not-is_empty-2.ensures

pub returns-clause-part : goal.returns-clause-part
returns-clause-part c = of_neither _ _ _ c.found-in_first.ensures c.if-not-is_empty.ensures c.found-in_second.ensures c.if-not-is_empty-2.ensures
