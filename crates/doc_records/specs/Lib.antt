pub mod Orders
pub mod Pool
pub mod Shapes
pub mod Texts
pub mod Trees
pub mod Words
