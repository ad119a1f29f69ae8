pub mod NextLaws
pub mod WayLaws
pub mod HealLaws
