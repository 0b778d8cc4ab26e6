mod Joined
mod Once
mod ThreeTables
mod Beside
mod NamedKeys
