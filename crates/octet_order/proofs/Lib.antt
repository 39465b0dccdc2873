pub mod OctetOrder
