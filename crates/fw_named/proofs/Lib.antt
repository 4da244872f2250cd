pub mod NamedLaws
