pub mod RecentEnds
pub mod AddressPorts
