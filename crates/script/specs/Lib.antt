pub mod Causes
pub mod Commands
pub mod Drafts
pub mod Fields
pub mod Forms
pub mod Grammar
pub mod Heads
pub mod Lines
pub mod Plans
<<<<<<< HEAD
pub mod Readers
=======
pub mod Texts
>>>>>>> 0d7dd30bb963e96dfff0953e2ce9ccd65930f29f
