pub mod EventForms
pub mod EventAsked
pub mod SessionsAsked
pub mod EventLines
pub mod EventRequests
pub mod AnswerTexts
pub mod Traces
