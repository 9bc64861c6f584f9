-- What the tests tell: soundness as a record of facts, ids below the next ones, refusals in a row, names that don't clash.
pub mod Facts
pub mod Below
pub mod FirstRefusals
pub mod Clashes
