-- The definitions that the contracts of sets cite: sets as numbers, and what each kind of set stands for.
pub mod Bits
pub mod Bond
pub mod Ring
pub mod Lists
pub mod Rising
