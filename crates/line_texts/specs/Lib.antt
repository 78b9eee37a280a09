pub mod CellTexts
pub mod Cut
pub mod Line
pub mod Lines
pub mod Numbers
