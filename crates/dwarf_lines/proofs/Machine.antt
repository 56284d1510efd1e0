pub mod MachineLaws
pub mod StepKinds
pub mod StepRows
pub mod Steps
pub mod Turns
pub mod UsualSteps
