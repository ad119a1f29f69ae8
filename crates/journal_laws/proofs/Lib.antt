pub mod Untouched
pub mod SameDependence
pub mod GroupLaw
