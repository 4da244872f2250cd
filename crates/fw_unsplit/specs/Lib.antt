pub mod WithoutTheWord
