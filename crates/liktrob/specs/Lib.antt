pub mod Answers
pub mod NamedFields
pub mod Statuses
pub mod WideFields
pub mod Words
