pub mod Emissions
