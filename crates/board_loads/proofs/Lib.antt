pub mod SealLaws
pub mod GoneLaws
pub mod LoadLaws
pub mod HoldLaws
