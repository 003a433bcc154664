-- The laws of input, text and records.
--     Digits     numbers in decimal and bytes in hex
--     Writing    texts that are written
--     Records    when a list starts with a whole record
--     Reading    a loop that reads an input into a list
pub mod Digits
pub mod Writing
pub mod Records
pub mod Reading
