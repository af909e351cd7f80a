-- The reader's lemmas.
pub mod Cuts
pub mod SixFields
pub mod Letters
pub mod RankText
pub mod RanksText
pub mod RightsText
pub mod Counters
pub mod OneReading
