-- Cases of 'Sound tables': which line each of them breaks.
pub mod SoundTables
pub mod SoundLines
