pub mod Lines
pub mod Marks
pub mod Words
pub mod Tokens
pub mod Values
pub mod Again
pub mod Hexadecimal
pub mod Listed
