-- The laws of what is counted of a table.
--     Parting     what is found in one assembly of a table shares no bond with what is found in another
--     Tallying    the rings counted by size, assembly by assembly
--     Pairing     the assemblies' pairs, rising
--     Counting    what the counts of a table are
pub mod Parting
pub mod Tallying
pub mod Pairing
pub mod Counting
