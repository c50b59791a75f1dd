pub mod OldBankLemmas
pub mod OldReadingLemmas
pub mod EventByteLemmas
pub mod ImageByteLemmas
pub mod ImageViewLemmas
pub mod ShortEventLemmas
pub mod OutcomeLemmas
