pub mod Goes
pub mod IdLists
pub mod IdsRead
pub mod Leads
pub mod Readings
