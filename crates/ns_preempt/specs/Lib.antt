pub mod Cost
pub mod Fewest
pub mod Laws
pub mod Ranking
