pub mod Unbounded
mod Lengths
mod Pairs
pub mod Mu
mod Binding
mod PreparedKeys
mod Errors
mod KeyRange
mod Spellings
mod Written
pub mod Elements
pub mod KeyFiles
pub mod Base64Symbols
pub mod Base64Groups
pub mod Base64Texts
pub mod Places
pub mod PemTexts
