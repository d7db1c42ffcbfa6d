-- Laws on the reader's answer.
pub mod Answers
