-- entries
pub mod Joining
pub mod PartFields
pub mod EventFields
pub mod EntryFields
-- files
pub mod FileLemmas
pub mod RecordLemmas
pub mod KeepLemmas
pub mod AppendLemmas
-- disks
pub mod Moments
pub mod Causes
pub mod DiskLemmas
pub mod MemoryLemmas
