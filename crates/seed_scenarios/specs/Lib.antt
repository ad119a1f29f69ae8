pub use Rattle.scenario_print
pub mod Seeds
