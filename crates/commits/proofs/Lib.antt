pub mod Effects
pub mod Found
pub mod Judged
pub mod Lives
pub mod LentRecords
pub mod Room
pub mod Uuids
