pub mod Positions
pub mod Runs
pub mod Agreed
pub mod Held
pub mod Keys
pub mod Left
pub mod Verdicts
pub mod WorkedRules
