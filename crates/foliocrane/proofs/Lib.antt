-- The demands as theorems over the own postconditions of the face's functions.
--     Answered     demand 1
--     Exactly      demand 2, over the definitions
--     Tied         demand 2, over calls
--     WalksRound   demand 2 for the walk round a ring, over calls
--     FieldOne     what the first number of a label counts, over calls
--     SameLabel    demand 3
pub mod Answered
pub mod Exactly
pub mod Tied
pub mod WalksRound
pub mod FieldOne
pub mod SameLabel
