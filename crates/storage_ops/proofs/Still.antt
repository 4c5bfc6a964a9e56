-- A store of which frames, marks or words of page tables alone have changed.
use Rattle.storage_ops.proofs.Prelude.{◌≡◌, ℕ, ◌/◌, List, Result, Ok, Err, refl, Who, Plan, Node, AccountMaps, Store, ActiveSegs, Home, Plain, plain, KeepsWords, words_at, Links, home_of, table_here, IsHomeFor, Ptw, KeepsTables, AreHoused, AreInTree, IsStore, Shows, Storage, picture, arith}

-- the places and the pools of what is active are as before
pub tree_still : {nodes : List Node} {ast next : ActiveSegs} → next.entries ≡ ast.entries → next.sizes ≡ ast.sizes
    → AreInTree nodes ast → AreInTree nodes next
tree_still entries_same sizes h = record {
  there = λ place u e. h.there place u (rw (← entries_same) e);
  superiors = λ place u n e found. rw entries_same (h.superiors place u n (rw (← entries_same) e) found);
  pools = λ place u n e found. rw sizes (h.pools place u n (rw (← entries_same) e) found);
}

-- records, VTOCs and what is active are as before
pub store_still : {old now : Plain} {ast next : ActiveSegs} {links : Links} {a : AccountMaps} {whos : List Who}
    → now.vtocs ≡ old.vtocs → now.records ≡ old.records → next.entries ≡ ast.entries → next.sizes ≡ ast.sizes
    → IsStore old ast links a whos → IsStore now next links a whos
store_still {ast} {next} {a} vtocs records entries_same sizes h = grind (arith, tree_still)

-- ---- a call that concerns one segment at its home, and keeps all words

-- a home that a call takes for a segment is the node's
pub own_home : {now : Plain} {a : AccountMaps} {uid : ℕ} {home : Home} {table : List Ptw} → AreHoused a now.vtocs
    → IsHomeFor now uid home table → home ≡ home_of a uid
own_home {uid} {home} h is = grind arith

pub picture_kept : {old now : Plain} {a : AccountMaps} {uid : ℕ} {home : Home} → AreHoused a old.vtocs
    → home ≡ home_of a uid → KeepsWords old now uid home
    → (u q : ℕ) → picture a (words_at now) u q ≡ picture a (words_at old) u q
unfolding picture
picture_kept {old} {now} {a} h own kept u q = grind arith

pub here_entries : {T E : Type 0} (ast : ActiveSegs) (uid p f : ℕ) (r : Result T E)
    → ((table_here ast uid p f r).entries ≡ ast.entries) × ((table_here ast uid p f r).sizes ≡ ast.sizes)
here_entries ast uid p f (Ok x) = (refl, refl)
here_entries ast uid p f (Err e) = (refl, refl)

pub shown_kept : {D : Type 0} {drive : D → List (List ℕ)} {p : Plan} {s : Store} {t u : Storage D} {uid : ℕ}
    {home : Home} → u.accounts ≡ t.accounts → u.whos ≡ t.whos
    → u.segs.links ≡ t.segs.links → KeepsTables t.segs.pages.volumes u.segs.pages.volumes
    → AreHoused t.accounts t.segs.pages.volumes.vtocs
    → home ≡ home_of t.accounts uid → KeepsWords (plain drive t.segs.pages) (plain drive u.segs.pages) uid home
    → Shows drive p s t → Shows drive p s u
shown_kept {drive} {t} {u} {uid} {home} accounts whos links tables housed own kept h = record {
  tree = rw accounts h.tree;
  known = rw links h.known;
  pages = record {
    stored = λ v q. rw (tables.vtocs, accounts) (h.pages.stored v q);
    once = h.pages.once;
    words = λ v o. cc (
      h.pages.words v o,
      picture_kept housed own kept v (o / 1024),
    );
  };
  script = record {
    records = λ v. rw tables.records (h.script.records v);
    entries = λ v. rw tables.vtocs (h.script.entries v);
    whos = cc;
  };
}
