-- The definitions that the contracts of this crate cite beside those of `definitions` and `lent`.
--     Sizes      how many sets have each size
--     Placing    a number put at its place among those of a part of a list, in any order
pub mod Sizes
pub mod Placing
