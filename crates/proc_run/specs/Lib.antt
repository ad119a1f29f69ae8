pub mod Running
pub mod Texts
pub mod Outcomes
pub mod Dues
pub mod Printed
