-- What a plan places, stops and evicts, and what Apply does of it.
pub mod ApplyQuota
pub mod ApplyRows
pub mod ApplyStep
pub mod Constraints
pub mod Deciding
pub mod InTurn
pub mod Limits
pub mod OwnJobs
pub mod Planning
pub mod Quota
pub mod QuotaEnd
pub mod Room
pub mod Surplus
pub mod UndoneNodes
