pub mod GatherLaws
pub mod MergeLaws
pub mod NoticeLaws
pub mod PlaceLaws
pub mod RestoreLaws
pub mod SinceLaws
