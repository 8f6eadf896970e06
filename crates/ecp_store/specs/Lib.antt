pub mod Calls
pub mod Edge
pub mod Faults
pub mod Memory
pub mod MemStores
pub mod NoMemory
pub mod Stores
