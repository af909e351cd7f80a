pub mod lemmas
mod NameFacts
mod NameText
mod BoardKept
mod TagRows
mod Seatings
mod Facts
mod Lawful
mod Queue
mod Waiting
mod Submitted
mod Whole
mod EndStays
mod Games
mod Lived
