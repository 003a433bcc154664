-- That what is exported keeps the promises of the face.
--     Same    what each function asks and ensures
pub mod Same
