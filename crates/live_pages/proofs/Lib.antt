mod Prelude
pub mod Replay
pub mod Quiet
pub mod Turning
pub mod Changing
pub mod ByTicket
pub mod Ends
pub mod AllIn
pub mod Calls
