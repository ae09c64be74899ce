mod Enforced
mod Fronts
mod Inputs
mod Joined
mod Options
mod Readings
mod Reasons
mod Served
