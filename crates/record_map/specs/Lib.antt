pub use Rattle.bitmap.specs.Bitmap
