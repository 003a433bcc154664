-- Why the algorithms are right, and what the crates above cite.
--     Putting       a number put into a set
--     Taken         which members of a set a `for` over it has taken
--     Leading       the list that leads each atom to a lower one of its fragment
--     Ways          sets of forest bonds that meet all atoms evenly but two
--     Collecting    a loop over the bonds that puts a set for some of them into an array
--     Trying        what holds after each bond that is tried
--     Holding       what a Basis and Assemblies hold: how many rings, and which stands where
--     Grouping      a cluster grows by the rings that share a bond with it
--     Numbering     the clusters are the assemblies, in order
--     Writing       the assembly of each basis ring, written over a list
pub mod Putting
pub mod Taken
pub mod Leading
pub mod Ways
pub mod Collecting
pub mod Trying
pub mod Holding
pub mod Grouping
pub mod Numbering
pub mod Writing
