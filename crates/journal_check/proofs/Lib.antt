pub mod AtPlaces
pub mod SameDeclarations
pub mod Prefixes
