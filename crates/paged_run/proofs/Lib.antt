pub mod Trapped
pub mod Journeys
pub mod Fitting
pub mod Growing
pub mod Settling
pub mod Opened
pub mod Whole
