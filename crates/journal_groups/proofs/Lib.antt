pub mod Rising
pub mod Leaves
pub mod Lacking
