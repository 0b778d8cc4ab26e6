mod Flushing
mod Outcomes
mod Standing
