pub mod Marking
pub mod MmuLaws
