pub mod General
