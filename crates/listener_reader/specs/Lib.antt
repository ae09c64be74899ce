pub mod Keys
pub mod ReadBack
pub mod RisingNames
pub mod Targets
pub use Rattle.envoy_types.specs.ListenerForms
pub use Rattle.serde_json.specs.View
