-- The definitions that the contracts of this crate cite beside those of `definitions`.
--     Climbing    what a climb to the first atom of a fragment does
--     Held        what a Basis and Assemblies hold
--     Clusters    what the steps that collect the assemblies and write their numbers do
pub mod Climbing
pub mod Held
pub mod Clusters
