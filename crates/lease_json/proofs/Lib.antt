mod AddressLemmas
mod MapSteps
