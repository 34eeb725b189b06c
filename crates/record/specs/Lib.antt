pub mod With
pub mod Valid
pub mod Ram
pub mod Stack
pub mod Start
