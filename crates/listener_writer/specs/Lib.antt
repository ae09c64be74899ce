pub mod Tokens
pub use Rattle.envoy_types.specs.ListenerForms
pub use Rattle.serde_json.specs.View
