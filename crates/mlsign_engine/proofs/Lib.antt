pub mod Texts
pub mod PemFiles
pub mod LaxTexts
pub mod Hashing
pub mod KeyPairs
pub mod FormFiles
