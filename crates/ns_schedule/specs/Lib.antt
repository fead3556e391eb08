pub mod Chosen
pub mod Fits
pub mod Laws
