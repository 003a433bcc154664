-- The laws by which functions above answer: refused, too little room, given, each as the outcome that a contract names.
pub mod Answers
