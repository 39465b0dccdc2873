pub mod FieldLemmas
pub mod LineLemmas
pub mod LoadLemmas
pub mod OneLineLemmas
pub mod PlaceLemmas
pub mod SevenTexts
pub mod WordLemmas
