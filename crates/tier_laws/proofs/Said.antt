pub mod FromInvariant
pub mod LaterStarts
pub mod RepliesLast
