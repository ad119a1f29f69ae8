pub mod CallEnds
pub mod CallParts
pub mod RunLaws
pub mod SendLaws
