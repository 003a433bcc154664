-- What is promised: what a call is, and the three demands upon it.
--     Call         a call of a function of the face
--     Answered     demand 1
--     Exactly      demand 2
--     WalksRound   demand 2 for the walk round a ring
--     FieldOne     what the first number of a label counts
--     SameLabel    demand 3
pub mod Call
pub mod Answered
pub mod Exactly
pub mod WalksRound
pub mod FieldOne
pub mod SameLabel
