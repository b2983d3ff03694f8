pub mod Grammar
pub mod Automaton
