pub mod Levels
pub mod StackPointer
pub mod CallRows
pub mod CallSteps
pub mod CallDemand
pub mod DemandOfCalls
