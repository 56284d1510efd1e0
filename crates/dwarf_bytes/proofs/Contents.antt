pub mod ContentEncodings
pub mod ContentLaws
