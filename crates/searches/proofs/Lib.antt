pub mod Leads
pub mod Scans
pub mod Vains
