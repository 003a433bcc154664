-- Demand 3 over the definitions: what renumbering keeps, from the bottom up.
--     Matching      lists without repeats whose members have partners
--     Images        sets under new numbers: members, sums, parts, sizes
--     Tables        a renumbering read the other way; ranges, ends and meetings
--     Refusals      the table refusals agree
--     Sets          even sets are carried to even sets, rings to rings
--     Rings         the numbers of rings of each size agree, and the sizes in every smallest basis
--     Assemblies    the assemblies correspond: their bonds, their numbers of basis rings, refusal 7
--     Fragments     there are as many fragments, and the Frerejacque numbers agree
--     Label         the label's answers agree
--     Example       a renumbering of S4 that changes all three
pub mod Matching
pub mod Images
pub mod Tables
pub mod Refusals
pub mod Sets
pub mod Rings
pub mod Assemblies
pub mod Fragments
pub mod Label
pub mod Example
