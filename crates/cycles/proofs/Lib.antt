-- The mathematics of even sets: what the code's proofs cite, for a table that is accepted.
--     Xor          the laws of exclusive or on tests
--     Parity       whether an odd number of the numbers below n pass a test
--     Sums         the sum of those sets that a test or a list of choices picks
--     Evens        even sets are closed under sums; the highest bond of one is a closure bond
--     Closures     an even set is known by its closure bonds
--     Fundamental  the even sets of a bond and forest bonds
--     BasisRings   the basis ring of a closure bond: the one even set of it and forest bonds
--     EvenSums     every even set is the sum of the basis rings of its closure bonds, in one way
--     BasisList    the list of basis rings: places, sums, independence
--     Together     bonds that a chain of rings joins
--     Assemblies   a ring is a sum of basis rings of one assembly; the bonds of an assembly are a class
--     Groups       a sum is a ring where no ring with a lower highest basis ring is inside it
--     Smallest     the smallest basis is one of rings, with the fewest bonds in total
--     Bound        how many rings there can be
pub mod Xor
pub mod Parity
pub mod Sums
pub mod Evens
pub mod Closures
pub mod Fundamental
pub mod BasisRings
pub mod EvenSums
pub mod BasisList
pub mod Together
pub mod Assemblies
pub mod Groups
pub mod Smallest
pub mod Bound
