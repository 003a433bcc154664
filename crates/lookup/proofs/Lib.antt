-- The laws that the proofs of lookup cite.
pub mod Laws
