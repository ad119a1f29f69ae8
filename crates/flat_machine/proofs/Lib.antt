pub mod DeclareSound
pub mod ChangeSound
