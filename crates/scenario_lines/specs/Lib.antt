pub mod Rules
pub mod Values
pub mod Shapes
pub mod ShapeViews
pub mod Forms
pub mod Lines
