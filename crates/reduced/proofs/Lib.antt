-- The laws of this crate's steps.
--     Changing     what an exchange does, and when a list has changed
--     Underway     the loops over the pairs of one set, and over all
--     Still        the sweeps until one changes nothing
--     Picking      a loop over the members of a set that writes the ring of each
--     Gathering    lists that are reduced and written one after another
--     Reducing     the rings of the assemblies, each reduced, are the reduced basis
pub mod Changing
pub mod Underway
pub mod Still
pub mod Picking
pub mod Gathering
pub mod Reducing
