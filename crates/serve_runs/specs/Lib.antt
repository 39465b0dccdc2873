pub mod Answers
pub mod Served
pub mod TallyTexts
pub mod Updates
