-- The laws of the combination.
--     Adding       the loop over the sums of a group: those that are rings follow the rings found
--     Combining    the group of a basis ring: how it is made, and inside which of its sums no ring lies that is found already
--     Turns        the basis rings of an assembly in turn, each with its group
--     Exactly      what the combination finds in all assemblies is exactly the rings
pub mod Adding
pub mod Combining
pub mod Turns
pub mod Exactly
