pub mod PartLemmas
pub mod FirstLemmas
pub mod PresentLemmas
pub mod PlotLemmas
pub mod PlainLemmas
pub mod PlainLineLemmas
pub mod PlainPageLemmas
pub mod ListLemmas
