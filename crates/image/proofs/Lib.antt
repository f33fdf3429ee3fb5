pub mod Flats
pub mod Saves
pub mod Restores
pub mod Loads
pub mod Sounds
pub mod Pours
pub mod Trips
pub mod Once
