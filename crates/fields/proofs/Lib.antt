-- The laws of bytes and fields.
--     Bytes      the bytes of numbers
--     Tagging    tagged fields
--     Spelling   bytes and the number that they spell
pub mod Bytes
pub mod Tagging
pub mod Spelling
