pub mod Ages
pub mod Carries
pub mod Lent
pub mod Once
pub mod Shared
pub mod Shows
pub mod Sound
