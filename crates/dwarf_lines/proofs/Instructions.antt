pub mod EncodingLaws
pub mod InstructionReads
pub mod OperandEncodings
pub mod Operands
pub mod ReadingLaws
pub mod ShortOperands
pub mod UsualReads
