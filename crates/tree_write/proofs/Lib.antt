-- Laws of the writer's answer.
pub mod Answers
