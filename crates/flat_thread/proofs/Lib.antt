pub mod CallKeeps
