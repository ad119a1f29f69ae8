mod Owned
mod Late
