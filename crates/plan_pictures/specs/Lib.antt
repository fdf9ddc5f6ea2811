pub mod lines
