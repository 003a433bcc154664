-- What the proofs of several functions use.
--     Stepping     one step of the walk: the other bond, what the test tells, what is noted
--     Starting     the start of the walk
--     Answering    each return as the answer that the contract names
pub mod Stepping
pub mod Starting
pub mod Answering
