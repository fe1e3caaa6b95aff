pub mod ArmedDisks
