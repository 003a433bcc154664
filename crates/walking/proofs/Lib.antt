-- The mathematics of the walk round a ring, for a table that is accepted.
--     Apart       sequences without repeats: the first that comes again, the set of the members
--     Bonds       the two atoms of a bond, and the bonds of a set at an atom
--     Rounds      trails in a bond set; a round is an even set, and over all bonds of a set it is a ring
--     Returns     a trail in a ring is a round, and so is one whose atoms have two bonds of the set each
--     Walks       a walk is a round over all bonds of its set, and there is no other
--     Steps       the walk as a function, step by step, and what the test by walking says
--     Rings       each ring has one walk; the sets with a walk are the rings; walking tells a ring
--     Examples    the test, by example
pub mod Apart
pub mod Bonds
pub mod Rounds
pub mod Returns
pub mod Walks
pub mod Steps
pub mod Rings
pub mod Examples
