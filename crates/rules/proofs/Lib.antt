pub mod Places
pub mod RuleLaws
