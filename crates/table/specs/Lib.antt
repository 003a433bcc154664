-- The definitions that the contracts of this crate cite beside those of `definitions`.
--     Ends    the ends of a bond, and bond bytes that fit
--     Rows    for each atom the set of the bonds that meet it
pub mod Ends
pub mod Rows
