-- The laws of choosing.
--     Reducing     what is left of a ring, whose lowest bond rises
--     Selecting    the smallest basis by elimination
pub mod Reducing
pub mod Selecting
