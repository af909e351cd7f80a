pub mod lemmas
mod Becoming
mod CallingFacts
mod Connections
mod Doing
mod Events
mod Followers
mod FollowingFacts
mod Here
mod Joining
mod Keeping
mod Led
mod Ordering
mod Owners
mod Resuming
mod Rights
mod Serving
mod Taking
