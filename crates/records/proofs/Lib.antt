pub mod Images
