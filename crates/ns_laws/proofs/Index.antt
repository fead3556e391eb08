-- The indexes of namespaces and of their rows, and their events.
pub mod BegunRows
pub mod Laws
pub mod OwnChanges
pub mod Stamps
pub mod StepRows
pub mod UnchangedRows
