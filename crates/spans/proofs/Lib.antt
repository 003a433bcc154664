-- Sums of sets, the exchange bound, and what is taken of a list: for every crate that speaks of bases.
--     Spans          what a list of sets spans, by induction
--     Choice         sums by choices, the test of a sum, independence in three readings
--     Exchange       an independent list of sums is no longer than what it sums
--     Lengths        independent lists that span each other are equally long
--     Taking         what is taken of a list: a part of it, independent, with the same span; one more set as a loop goes
--     InOrder        what is taken of a list in order, read set by set, and that there is one such list
--     Counts         how many numbers are at most t, or t, and the total of a list
--     Rising         lists that rise by a weight
--     Lightest       what is taken of a rising list weighs least, and the weights are the same in all that do
--     Carries        maps that carry a list to another, sums to sums
--     Invariant      the same weights are taken of lists that a map carries to each other
--     Smallest       the theorems about the smallest basis, over any list in rising size
--     Apart          of lists that share no bond as many of each size are taken as of each by itself
--     Elimination    the test of a sum by kept sets, one for each lowest member, as code has it
pub mod Spans
pub mod Choice
pub mod Exchange
pub mod Lengths
pub mod Taking
pub mod InOrder
pub mod Counts
pub mod Rising
pub mod Lightest
pub mod Carries
pub mod Invariant
pub mod Smallest
pub mod Apart
pub mod Elimination
