-- What a field holds, as a byte.
pub mod Tags
