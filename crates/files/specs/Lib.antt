pub mod Files
pub mod Asked
pub mod Sound
pub mod Coded
