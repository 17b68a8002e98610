pub mod Entries
pub mod Listed
pub mod Rules
pub mod RuleNumbers
