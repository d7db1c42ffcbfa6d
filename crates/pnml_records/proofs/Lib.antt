-- The laws of records in a room.
pub mod Stores
pub mod Records
