pub mod Answering
pub mod Beginning
pub mod Handshakes
