pub mod AnswerLemmas
pub mod FeedLemmas
pub mod HouseLemmas
pub mod KeptLemmas
pub mod PlayLemmas
pub mod ReadingLemmas
pub mod ScriptLemmas
pub mod WholeLemmas
