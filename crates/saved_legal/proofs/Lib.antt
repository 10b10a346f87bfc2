pub mod EachRecord
pub mod IdleRecord
pub mod RightSaved
