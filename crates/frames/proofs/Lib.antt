pub mod KindCase
pub mod LogGrammar
pub mod BodyGrammar
pub mod BodyLengths
pub mod FrameGrammar
