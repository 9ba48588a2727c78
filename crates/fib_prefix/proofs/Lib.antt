pub mod Peers
pub mod Cands
