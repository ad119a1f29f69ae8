pub mod Lines
pub mod Values
pub mod Forms
pub mod Again
