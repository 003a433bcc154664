-- The laws of sets as numbers of any size, for this crate's proofs and those of every crate above.
--     Laws       members of each operation, equality by members, bounds, highest and lowest member
--     Size       the size of sums, unions and parts
--     Members    common members, parts, the next member
--     Upto       the members below a number; a loop by `next` goes up
--     Upward     the members in rising order, the least first, as a loop over them takes them
--     Machine    what a machine word does to the set that it holds; the bounds of sets of bonds and of basis rings
--     Lists      lists of sets as flat lists of words, for any number of words a set; then of `sets_in`, for the crates above
--     OneWord    a set in one word, as the functions need it: with the kinds and the sidecar's step, what knows that it is one
pub mod Laws
pub mod Size
pub mod Members
pub mod Upto
pub mod Machine
pub mod Lists
pub mod OneWord
pub mod Upward
