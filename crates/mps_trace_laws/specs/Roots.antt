-- Slots, messages and tables of references: their fixes are steps of the abstract collector.
pub mod OneRoot
pub mod Rows
pub mod Tables
pub mod Beginning
pub mod Housed
