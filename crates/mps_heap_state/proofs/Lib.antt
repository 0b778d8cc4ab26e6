pub mod UnitsOfPools
