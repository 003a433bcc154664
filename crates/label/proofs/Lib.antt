-- The laws of the label.
--     Fitting      no number is cut short by the bytes that it gets
--     Labelling    what is counted of a table makes its label
pub mod Fitting
pub mod Labelling
