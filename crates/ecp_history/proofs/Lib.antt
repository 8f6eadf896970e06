pub mod tables
pub mod LegalLaws
pub mod FrontLaws
pub mod StripeLaws
pub mod LossLaws
pub mod FollowLaws
pub mod CountLaws
pub mod PlanLaws
