pub mod CallAnswers
pub mod KeptParents
pub mod LoadAnswers
pub mod Passing
pub mod Running
