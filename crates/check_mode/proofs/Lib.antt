pub mod Cuts
pub mod Answered
pub mod Printed
