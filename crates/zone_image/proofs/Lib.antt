pub mod AppendLaws
pub mod BlockLaws
pub mod CrashLaws
pub mod ImageLaws
pub mod InfoLaws
pub mod MomentLaws
pub mod ReadLaws
