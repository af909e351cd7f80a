pub mod lemmas
mod KindFacts
mod NumberFacts
mod NumberTable
mod Reading
mod SetsBelow
mod StartTable
mod Written
