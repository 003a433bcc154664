-- The laws of the label's bytes.
--     Counting     the lines of the histogram
--     Lengths      how long a label is
pub mod Counting
pub mod Lengths
