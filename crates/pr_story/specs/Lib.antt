-- a list in pages
pub mod Paged
-- what promises are made of
pub mod History
pub mod Told
pub mod Knowledge
pub mod Clients
pub mod Messages
pub mod Turns
pub mod Ranges
pub mod Lawful
pub mod Sessions
pub mod Counts
pub mod Commands
pub mod Scripts
-- the laws: their statements, and what these are made of
pub mod Statements
pub mod Laws
pub mod Merging
pub mod Economy
pub mod Lines
pub mod Places
pub mod Reading
pub mod Settling
pub mod Remaining
pub mod OneThread
pub mod Phases
pub mod Worked
-- what the contracts of the plain program say besides
pub mod Search
pub mod Withheld
pub mod Sending
pub mod Marking
