pub mod Shape
pub mod Ways
pub mod Nodes
pub mod CallUnique
pub mod OldStands
