pub mod AcceptedForms
pub mod AcceptedItems
pub mod Bundles
pub mod Counted
pub mod Fresh
