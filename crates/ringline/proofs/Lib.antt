-- The laws of the program's lines.
--     Writing      how long the lines are, and their parts
--     Lines        the lines of the records of a list
--     Bounds       how long a label can be
--     Answering    the line of a record from the answer of its label
--     Printing     the loop over the records
pub mod Writing
pub mod Lines
pub mod Bounds
pub mod Answering
pub mod Printing
