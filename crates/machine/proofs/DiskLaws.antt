-- The volumes of a machine that keeps its promise hold the flat store after the book.
use Rattle.machine.proofs.Prelude.{◌≡◌, ◌≢◌, cond, ℕ, Bool, true, false, eqb, is_some, get_or, position, List, ◌∷◌, Option, Some, None, refl, sym, ap, ◌∙◌, ◌/◌, ◌%◌, Node, node_in, volume_in, is_stored, custody_after, Custody, record_at, Vols, Ptw, Home, is_binding, is_filed_at, words_of_page, bindings, vtoc_in, Mover, in_move, home_of, is_filed, is_there, picture, seen, Keeps, flat_of, bound_use, frame_use, State, position_at, HasHome, HasNode, IsOnDisk, bound_tells, [], Ptw as ptw, page_held as bound_page, Vtoc_Entry as Entry, Tied_uid_at as uid_at}

-- a frame that is bound shows its page
bound_shows : (words : ℕ → ℕ → Ptw) (page : ℕ × ℕ) (x read : Option (ℕ × ℕ)) → x ≡ Some page
    → bound_page (frame_use words x read) ≡ Some page
bound_shows words page x read e = rw e (by (words page.0 page.1))
  where
    by : (w : Ptw) → bound_page (bound_use page w) ≡ Some page
    by ptw.Null = refl
    by _ = refl

-- the volume of a node that is there
volume_is : (ns : List Node) (u : ℕ) (n : Node) → node_in ns u ≡ Some n → volume_in ns u ≡ n.volume
volume_is [] u n e = cc
volume_is (m ∷ ns) u n e = by (eqb m.uid u) e (volume_is ns u n)
  where
    by : (b : Bool) → cond b (Some m) (node_in ns u) ≡ Some n → (node_in ns u ≡ Some n → volume_in ns u ≡ n.volume)
        → cond b m.volume (volume_in ns u) ≡ n.volume
    by true same rest = let is : m ≡ n = cc in cc
    by false later rest = rest later

-- where no segment moves, the volumes are as they are at rest
pub records_still : (vols : Vols (List (List ℕ))) (x : Option Mover) → x ≡ None
    → (in_move vols x).records ≡ vols.records
records_still vols x none = cc

pub vtocs_still : (vols : Vols (List (List ℕ))) (x : Option Mover) → x ≡ None → (in_move vols x).vtocs ≡ vols.vtocs
vtocs_still vols x none = cc

-- a move takes records and an entry, and no drive
pub drives_in_move : {D : Type 0} (vols : Vols D) (x : Option Mover) → (in_move vols x).drives ≡ vols.drives
drives_in_move vols None = refl
drives_in_move vols (Some m) = refl

module _ (s : State) (keeps : Keeps s) where
  abbrev nodes : List Node
  nodes = s.store.accounts.nodes

  there : (home : Home) (u : ℕ) → uid_at s.store.pages.vtocs home ≡ Some u → is_there nodes u ≡ true
  there home u used = keeps.store.counted.housed.there home u used

  -- the home that is used for a node is the one that the accounts have
  own_home : (home : Home) (u : ℕ) → uid_at s.store.pages.vtocs home ≡ Some u → home ≡ home_of s.store.accounts u
  own_home home u used = keeps.store.counted.housed.only home u used

  node_of : (home : Home) (u : ℕ) → uid_at s.store.pages.vtocs home ≡ Some u → HasNode (flat_of s).nodes home u
  node_of home u used = by (node_in nodes u) refl (there home u used)
    where
      by : (x : Option Node) → node_in nodes u ≡ x → is_some x ≡ true → HasNode (flat_of s).nodes home u
      by None e h = cc
      by (Some n) e h = record {
        node = n;
        there = cc;
        volume = cc (own_home home u used, volume_is nodes u n e);
      }

  home_in : (n : Node) → node_in (flat_of s).nodes n.uid ≡ Some n → HasHome s.store.pages.vtocs n
  home_in n is = record {
    home = home_of s.store.accounts n.uid;
    volume = volume_is nodes n.uid n here;
    used = keeps.store.counted.housed.homes n.uid (ap is_some here);
  }
    where
      here : node_in nodes n.uid ≡ Some n
      here = cc

  stored_there : (home : Home) (u p : ℕ) → uid_at s.store.pages.vtocs home ≡ Some u
      → is_filed_at s.store.pages.vtocs home p ≡ is_stored (flat_of s).stored u p
  unfolding is_filed
  stored_there home u p used = cc (own_home home u used, there home u used, keeps.faithful.pages.stored u p)

  -- a page is in no frame where custody has none for it
  unbound : (u p : ℕ) → ((f : ℕ) → bound_page ((custody_after s.plan s.entries).frame f) ≢ Some (u, p))
      → position (is_binding u p) (bindings s.store.pages.core) ≡ None
  unbound u p none = by (position (is_binding u p) (bindings s.store.pages.core)) refl
    where
      by : (x : Option ℕ) → position (is_binding u p) (bindings s.store.pages.core) ≡ x → x ≡ None
      by None e = refl
      by (Some f) e = absurd (none f (ap (λ (c : Custody). bound_page (c.frame f)) (sym keeps.book.held)
          ∙ bound_shows (seen s).words (u, p) ((seen s).bound f) ((seen s).reads f) (bound_tells u p ((seen s).bound f)
          (position_at (is_binding u p) (bindings s.store.pages.core) None f e).1)))

  on_record : (home : Home) (u o r : ℕ) → uid_at s.store.pages.vtocs home ≡ Some u
      → record_at (vtoc_in s.store.pages.vtocs home.volume) home.entry (o / 1024) ≡ Some r
      → ((f : ℕ) → bound_page ((custody_after s.plan s.entries).frame f) ≢ Some (u, o / 1024))
      → get_or (get_or (get_or s.store.pages.disks home.volume []) r []) (o % 1024) 0 ≡ (flat_of s).words u o
  unfolding picture words_of_page
  on_record home u o r used named none = cc (
    keeps.faithful.pages.words u o,
    there home u used,
    own_home home u used,
    unbound u (o / 1024) none,
  )

  on_disk : IsOnDisk s.store.pages.disks s.store.pages.records s.store.pages.vtocs (flat_of s)
      (custody_after s.plan s.entries)
  on_disk = record {
    homes = home_in;
    nodes = node_of;
    only = λ home other u a b. own_home home u a ∙ sym (own_home other u b);
    maps = stored_there;
    filed = keeps.store.kept.paged.filed;
    words = on_record;
  }

  -- the same of volumes that are seen by themselves
  pub on_volumes : (disks : List (List (List ℕ))) (records : List (List Bool)) (vtocs : List (List (Option Entry)))
      → disks ≡ s.store.pages.disks → records ≡ s.store.pages.records → vtocs ≡ s.store.pages.vtocs
      → IsOnDisk disks records vtocs (flat_of s) (custody_after s.plan s.entries)
  on_volumes disks records vtocs d r v = rw (d, r, v) on_disk
