pub mod PushLaws
pub mod MemStoreLaws
