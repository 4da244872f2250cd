pub mod SeenLaws
pub mod SideLaws
