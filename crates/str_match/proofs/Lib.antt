pub mod HeadersHold
pub mod PathsHold
pub mod ServerNameHolds
