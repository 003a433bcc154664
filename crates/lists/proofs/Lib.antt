-- The laws of the lists of rings.
pub mod Laws
