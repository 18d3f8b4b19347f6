pub mod AnswerFacts
pub mod DoneFacts
pub mod ReadInputs
pub mod RefusedFacts
