-- The readings of the definitions: that each test says what its sentence says, and that each list is the one that its sentence describes.
--     Tests       bounded tests and what they say
--     Lists       what the list-makers of specs/Search.antt list, and how they go on by one
--     Passing     the members of a set of places up to one that `next` gives
--     Over        a `for` over the members of a set of places
--     Sorting     lists in an order: what a sorted list is, and that there is one only
--     Refusals    each refusal is given exactly when its sentence holds
--     Rings       the tests for even sets and rings; all rings, each once and in order
--     Classes     things that pairs join have one number, the least of their class
--     Paths       paths, closure bonds, and the path of forest bonds
--     Fragments   fragments by paths, and how many there are
--     Linking     linked basis rings, and the numbering of assemblies
--     Sweeping    each sweep of the reduced basis changes nothing or lowers the total size
--     Starred     the starred examples, as one list
--     Walked      walks, and lists that are none, by example
--     Printed     what the program prints, by example
pub mod Tests
pub mod Lists
pub mod Passing
pub mod Over
pub mod Sorting
pub mod Refusals
pub mod Rings
pub mod Classes
pub mod Paths
pub mod Fragments
pub mod Linking
pub mod Sweeping
pub mod Starred
pub mod Walked
pub mod Printed
