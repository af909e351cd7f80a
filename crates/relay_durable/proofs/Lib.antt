mod Events
mod Keeping
