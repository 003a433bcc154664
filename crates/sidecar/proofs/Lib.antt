-- The laws of the sidecar.
--     Fitting    no set is cut short by the bytes that it gets
pub mod Fitting
