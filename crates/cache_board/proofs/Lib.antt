pub mod DeskLaws
pub mod DriveLaws
mod EventLaws
pub mod PastLaws
