pub mod Words
pub mod Tables
pub mod Flat
pub mod Walk
pub mod KeyTurns
pub mod SheetHeader
pub mod Files
