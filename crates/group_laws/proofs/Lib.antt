pub mod Ranks
pub mod Remaining
pub mod FromBelow
pub mod StayingGood
pub mod Counting
pub mod LockCounts
pub mod StayingOne
