pub mod Connecting
pub mod Cut
pub mod CutOff
pub mod Found
pub mod Paged
pub mod References
pub mod Rooms
pub mod Shown
