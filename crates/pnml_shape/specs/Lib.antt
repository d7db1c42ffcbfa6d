-- The shape of PNML texts.
pub mod Drawing
pub mod Shape
pub mod Machine
pub mod Theorem
