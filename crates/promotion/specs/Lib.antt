pub mod Copying
pub mod Hinting
pub mod Linking
pub mod Promoting
pub mod Ready
pub mod Sharing
