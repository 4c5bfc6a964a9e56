pub mod Allowed
pub mod Clean
pub mod Custody
pub mod Effects
pub mod Fine
pub mod Next
