mod KeyFiles
mod Ledgers
mod Licences
mod Manifests
