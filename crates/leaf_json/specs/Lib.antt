pub mod Fields
pub mod Form
pub mod Laws
pub use Rattle.serde_json.specs.View
pub use Rattle.envoy_types.specs.StringForms
pub use Rattle.envoy_types.specs.TreeForms
pub use Rattle.envoy_types.specs.WrittenFields
