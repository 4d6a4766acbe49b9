-- entries, and the file that keeps them
pub mod Spelling
pub mod Reading
pub mod Entries
pub mod Files
-- disks
pub mod Disk
pub mod Memory
pub mod Changes
pub mod Faults
pub mod Keeping
pub mod Calls
