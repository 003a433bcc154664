-- The laws of what is worked out of a table: whether an assembly has too many basis rings, how many sums the assemblies have, and what the
-- combination finds in them.
pub mod Perceiving
