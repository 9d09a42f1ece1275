pub mod Company
pub mod Rounds
pub mod LastLooks
pub mod QuietRound
pub mod QuietEnd
pub mod OneRun
pub mod FromOpening
pub mod FromRest
