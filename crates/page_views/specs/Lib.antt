pub mod Views
pub mod Origins
pub mod Lines
pub mod Parts
pub mod Index
pub mod Spots
