pub mod HeadLaws
pub mod HeapLaws
pub mod LogLaws
pub mod PileLaws
pub mod PiledLaws
