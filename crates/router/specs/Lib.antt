pub mod Router
