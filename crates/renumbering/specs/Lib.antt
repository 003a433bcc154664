-- What demand 3 compares: tables that differ only in their numbering, and answers that agree.
pub mod Renumbered
