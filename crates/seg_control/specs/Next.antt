-- The next segment of a chain of superiors that becomes active (Bensoussan, Clingen and Daley 1972; that the first one
-- of a chain which is not active comes next, and the least free place of its pool, is own).
use Rattle.std.specs.Prelude.{◌≡◌, ℕ, suc, zero, ◌+◌, ◌^◌, ◌<◌, ◌≤◌, List, [], ◌∷◌, ◌++◌, Option, None, Some, length, map, slice_index_or}
use Rattle.page_table.specs.declared.Ptw.{Ptw}
use Rattle.page_table.specs.declared.Ptw.TheVariants.{Null, Out}
use Rattle.vtoc.specs.Vtoc.{Entry as VtocEntry}
use Rattle.active_segs.specs.declared.Entry.{Entry}
use Rattle.active_segs.specs.Active.{ActiveSegs, superior_at, uid_at, activated, with_table, IsActive, IsLeastFree, IsFull}
use Rattle.active_segs.specs.Victim.{IsVictim, HasOneOffChain, hand_moved}
use Rattle.page_control.specs.Tied.{map_at, uid_at as uid_homed}
use Rattle.seg_control.specs.declared.Link.{Link}
use Rattle.seg_control.specs.declared.Next.{Next}
use Rattle.seg_control.specs.declared.Next.TheVariants.{Activated, Victim, Whole}
use Rattle.seg_control.specs.Control.{Control}
use Rattle.seg_control.specs.Kept.{IsInactive}

-- the uids of a chain
abbrev pub uids_of : List Link → List ℕ
uids_of chain = map (λ link. link.uid) chain

-- link i of a chain
abbrev pub no_link : Link
no_link = record { uid = 0; pool = 0; home = record { volume = 0; entry = 0 } }

abbrev pub link_at : List Link → ℕ → Link
link_at chain i = slice_index_or chain i no_link

-- the uid of the link before link i; link 0 has none before it
abbrev pub superior_of : List Link → ℕ → Option ℕ
superior_of chain zero = None
superior_of chain (suc i) = Some (link_at chain i).uid

-- how many pages a segment of a pool may have
abbrev pub words_in : ℕ → ℕ
words_in pool = 4 ^ (pool + 1)

-- link i is the first of the chain whose segment is not active
pub record IsFirstInactive (entries : List (Option Entry)) (chain : List Link) (i : ℕ) : Type 0 where
  pub within : i < length chain
  pub inactive : IsInactive entries (link_at chain i).uid
  pub before : (j : ℕ) → j < i → IsActive entries (link_at chain j).uid

-- a file map names no page from n on
pub record FitsIn (places : List (Option ℕ)) (n : ℕ) : Type 0 where
  pub none : (p : ℕ) → n ≤ p → slice_index_or places p None ≡ None

-- the word of a page that has this record, and is in no frame
abbrev pub filed_word : Option ℕ → Ptw
filed_word None = Null
filed_word (Some r) = Out r

-- the page table of n words by a file map, with no page in a frame
unfoldable pub table_for : List (Option ℕ) → ℕ → List Ptw
table_for places zero = []
table_for places (suc n) = table_for places n ++ filed_word (slice_index_or places n None) ∷ []

-- A chain of which the next segment may become active.
pub record MayActivate (ast : ActiveSegs) (vtocs : List (List (Option VtocEntry))) (volumes : ℕ) (chain : List Link) :
    Type 0 where
  pub few : length chain ≤ 10
  pub pools : (i : ℕ) → i < length chain → (link_at chain i).pool < 4
  -- each active segment of it has the one before it as its superior, and the first has none
  pub superiors : (i place : ℕ) → i < length chain → uid_at ast.entries place ≡ Some (link_at chain i).uid
      → superior_at ast.entries place ≡ superior_of chain i
  -- each home is a used entry of its segment, and names only pages that a table of the pool has
  pub volumes_are : (i : ℕ) → i < length chain → (link_at chain i).home.volume < volumes
  pub homes : (i : ℕ) → i < length chain → uid_homed vtocs (link_at chain i).home ≡ Some (link_at chain i).uid
  pub fits : (i : ℕ) → i < length chain → FitsIn (map_at vtocs (link_at chain i).home) (words_in (link_at chain i).pool)
  -- where the pool of the first segment that is not active is full, something there is not of the chain
  pub off : (i : ℕ) → IsFirstInactive ast.entries chain i → IsFull ast (link_at chain i).pool
      → HasOneOffChain ast (link_at chain i).pool (uids_of chain)

-- the segment of a link is active in the place, below this superior, with the page table that its file map tells
abbrev pub made_active : ActiveSegs → ℕ → ℕ → Option ℕ → List Ptw → ActiveSegs
made_active ast place uid superior table = with_table (activated ast place uid superior) place table

-- the segment of the first inactive link is active now, in the least free place of its pool
pub record IsActivated {D : Type 0} (old new : Control D) (chain : List Link) (place i : ℕ) : Type 0 where
  pub first : IsFirstInactive old.ast.entries chain i
  pub least : IsLeastFree old.ast (link_at chain i).pool place
  pub effect : new ≡ record old {
    ast = made_active old.ast place (link_at chain i).uid (superior_of chain i)
        (table_for (map_at old.pages.volumes.vtocs (link_at chain i).home) (words_in (link_at chain i).pool));
  }

-- the pool of the first inactive link is full, and this place has the victim there; the pool's hand has moved
pub record IsToGo {D : Type 0} (old new : Control D) (chain : List Link) (place i : ℕ) : Type 0 where
  pub first : IsFirstInactive old.ast.entries chain i
  pub full : IsFull old.ast (link_at chain i).pool
  pub victim : IsVictim old.ast (link_at chain i).pool (uids_of chain) place
  pub effect : new ≡ record old { ast = hand_moved old.ast (link_at chain i).pool (uids_of chain) }

-- each segment of the chain is active
pub record AreActive (entries : List (Option Entry)) (chain : List Link) : Type 0 where
  pub each : (i : ℕ) → i < length chain → IsActive entries (link_at chain i).uid

-- what `activate_next` answers and does
abbrev pub IsNext : {D : Type 0} → Control D → Control D → List Link → Next → Type 0
IsNext old new chain (Activated place) = (i : ℕ) × IsActivated old new chain place i
IsNext old new chain (Victim place) = (i : ℕ) × IsToGo old new chain place i
IsNext old new chain Whole = AreActive old.ast.entries chain × (new ≡ old)

-- the pool of the first link whose segment is not active is full
pub record IsStuck (ast : ActiveSegs) (chain : List Link) (i : ℕ) : Type 0 where
  pub first : IsFirstInactive ast.entries chain i
  pub full : IsFull ast (link_at chain i).pool

-- the place whose segment has to become inactive before the next one of a chain can become active
pub record IsGoing (ast : ActiveSegs) (chain : List Link) (place : ℕ) : Type 0 where
  pub link : ℕ
  pub stuck : IsStuck ast chain link
  pub victim : IsVictim ast (link_at chain link).pool (uids_of chain) place
