pub mod Ascending
pub mod FileKeys
pub mod FileLists
pub mod KeyWrites
pub mod LeftPlaces
pub mod LifeOrder
pub mod NameKeys
pub mod NamesGiven
