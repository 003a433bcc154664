-- The test of a ring by walking round it, and the promise of a ring's walk.
--     Closing    a walk comes back to its start after so many bonds and not before, as a test
--     OneWalk    a set has one walk, over each of its bonds once
pub mod Closing
pub mod OneWalk
