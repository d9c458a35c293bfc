-- Strings of opcodes, whatever they stand for.
pub mod Strings
