-- Category files with borrowed texts, which document 02's F-6 ended, and the conversion that gives each record its own text.
pub mod Files
pub mod Lookup
pub mod Converted
pub mod Answer
pub mod Theorem
