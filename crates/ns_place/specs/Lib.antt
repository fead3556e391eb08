pub mod Amounts
pub mod Laws
pub mod Order
pub mod Marks
