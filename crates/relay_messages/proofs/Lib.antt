pub mod lemmas
mod Ascii
mod Names
mod WordLengths
mod PlainFacts
mod PlainReading
mod CompactBytes
mod CompactReading
mod UsualReading
mod UsualFacts
mod Converted
mod FirstValues
mod Turns
mod InOrder
mod KeptFacts
mod Whole
mod Ports
