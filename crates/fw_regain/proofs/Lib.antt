pub mod CauseLaws
pub mod DownLaws
pub mod EachFailedLaws
pub mod FlightLaws
pub mod GotBackLaws
pub mod GreatestLaws
pub mod RootLaws
pub mod ThirdLaws
