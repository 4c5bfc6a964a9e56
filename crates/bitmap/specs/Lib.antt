pub mod Bits
pub mod Bitmap
