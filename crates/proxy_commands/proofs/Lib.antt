pub mod PlainLemmas
pub mod ProxyLemmas
