-- What a reader must believe: the table, the definitions, the answers, the refusals' sentences, the label, the records and the program's
-- text, from the bottom up.
pub mod Search
pub mod Table
pub mod Ring
pub mod Basis
pub mod Fragment
pub mod Assembly
pub mod AllRings
pub mod Smallest
pub mod Reduced
pub mod Walk
pub mod Label
pub mod Answer
pub mod Sentences
pub mod Text
pub mod Records
pub mod Ringline
