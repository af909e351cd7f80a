pub mod Statuses
pub mod ServeFaults
pub mod Serving
pub mod Reports
pub mod Failures
pub mod JournalEnds
pub mod Journals
