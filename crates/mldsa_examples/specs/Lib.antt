pub mod ToyHash
pub mod ToyStreams
pub mod KeyStore
pub mod Ledger
pub mod Licence
pub mod Manifest
