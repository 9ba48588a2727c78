pub mod Hop_changed
