pub mod FeedLemmas
mod Showing
pub mod Seen
pub mod Listed
pub mod Together
mod Ends
mod Handing
mod Closing
mod Flushing
mod Coming
mod Limits
mod Relisting
mod Parted
mod Parting
mod Sending
