mod Upgraded
mod Texts
mod Journals
mod Replayed
