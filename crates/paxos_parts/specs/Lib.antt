pub mod Acceptor
pub mod Learner
