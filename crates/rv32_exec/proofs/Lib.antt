pub mod StepChanges
pub mod Translations
pub mod Decoding
