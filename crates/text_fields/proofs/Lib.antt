pub mod Cutting
pub mod Decimals
pub mod Fronts
pub mod Words
