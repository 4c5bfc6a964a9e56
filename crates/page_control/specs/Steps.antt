-- What the steps of a call leave, for each of its endings (Organick 1972).
use Rattle.std.specs.Prelude.{◌≡◌, ◌<◌, ◌↔◌, ℕ, List, Option, Some, Result, Ok, All, IfSome, OnOk, IsErr, true, length}
use Rattle.mword.specs.Words.{AreZero}
use Rattle.bitmap.specs.Bitmap.{IsLeastFree}
use Rattle.page_table.specs.declared.Ptw.{Ptw}
use Rattle.vtoc.specs.Vtoc.{IsLeastFreeEntry}
use Rattle.page_control.specs.declared.Home.{Home}
use Rattle.page_control.specs.declared.Left.{Left}
use Rattle.page_control.specs.declared.Left.TheVariants.{Released}
use Rattle.page_control.specs.Plain.{Plain, words_in, disk_of, flags_of, vtoc_of, filed, record_of}
use Rattle.page_control.specs.Effects.{next_record, after_evict, after_read, after_create, after_asked, words_left, words_here}

-- page p at a home was to leave frame f, and its words changed from t to u
pub record HasLeft {E : Type 0} (old now : Plain) (t u : List Ptw) (home : Home) (p f : ℕ) (result : Result Left E) :
    Type 0 where
  pub zeros : result ≡ Ok Released ↔ AreZero (words_in old f)
  pub effect : now ≡ after_evict old home p f result
  pub word : u ≡ words_left t p (record_of old home p) result
  pub long : length (words_in old f) ≡ 1024
  pub within : record_of old home p < length (disk_of old home.volume)

-- page p of segment uid was to be read into frame f
pub record HasRead {T E : Type 0} (old now : Plain) (t u : List Ptw) (uid : ℕ) (home : Home) (p f : ℕ)
    (result : Result T E) : Type 0 where
  pub effect : now ≡ after_read old uid p home f result
  pub word : u ≡ words_here t p f result
  pub frames : length old.frames ≡ length old.core.frames

-- page p of segment uid was to be made in frame f
pub record HasCreated {T E : Type 0} (old now : Plain) (t u : List Ptw) (uid : ℕ) (home : Home) (p f at w : ℕ)
    (result : Result T E) : Type 0 where
  pub effect : now ≡ after_create old uid p home f at w result
  pub word : u ≡ words_here t p f result
  pub full : IsErr result ↔ All (λ flag. flag ≡ true) (flags_of old home.volume)
  pub free : OnOk result (IsLeastFree (flags_of old home.volume) (next_record old home))
  pub placed : OnOk result (filed now home p ≡ Some (next_record old home))
  pub frames : length old.frames ≡ length old.core.frames

-- an entry of volume v was asked for: the least free one is taken for uid, or nothing has changed
pub record HasAsked (old now : Plain) (v uid : ℕ) (result : Option ℕ) : Type 0 where
  pub effect : now ≡ after_asked old v uid result
  pub least : IfSome result (λ e. IsLeastFreeEntry (vtoc_of old v) e)
