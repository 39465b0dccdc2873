pub mod AddressLemmas
pub mod GrantLemmas
