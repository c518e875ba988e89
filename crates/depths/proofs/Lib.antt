pub mod DepthLaws
pub mod SlotThere
