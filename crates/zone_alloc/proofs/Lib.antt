pub mod ZoneWalks
pub mod SpaceLaws
pub mod PlanLaws
pub mod TableLaws
pub mod NamedLaws
pub mod FinishLaws
