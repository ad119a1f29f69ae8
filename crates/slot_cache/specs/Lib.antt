pub mod Index
pub mod Cells
pub mod Table
pub mod Rows
pub mod Seats
pub mod Slots
