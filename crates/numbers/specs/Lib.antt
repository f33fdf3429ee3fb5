pub mod Numbers
pub mod Free
pub mod Said
