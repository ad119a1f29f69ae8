pub mod CountLemmas
pub mod EditLemmas
pub mod FixedLemmas
pub mod ListLemmas
pub mod RisingLemmas
pub mod SortedLemmas
pub mod TreeLemmas
pub mod UnderLemmas
pub mod WayLemmas
mod DownLemmas
