pub mod FloatLemmas
pub mod ListLemmas
pub mod ObjectLemmas
pub mod PushLemmas
