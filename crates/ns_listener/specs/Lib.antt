pub mod Closing
pub mod Duties
pub mod Ending
pub mod Faults
pub mod Keeping
pub mod Opening
pub mod Printing
pub mod Answering
