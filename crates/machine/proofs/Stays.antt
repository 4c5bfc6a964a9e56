-- A store after a call that isn't seen in the flat store: it shows what it showed.
use Rattle.machine.proofs.Prelude.{◌≡◌, ℕ, Bool, true, false, cond, get_or, replicate, None, refl, ap, subst, ◌∙◌, ◌/◌, map-set_same, Plan, AccountMaps, Frame, Core, bound_page, with_frame, ActiveSegs, Plain, bindings, words_at, picture_by, Links, home_of, is_filed, is_there, picture, Store, Action, after, no_call, IsFaithful, shown_after, State, Storage, with_pages, Parts, IsSound, with_state, Frame as frame}
use Rattle.machine.proofs.Does.{Does, keeps_of}
use Rattle.machine.proofs.Steps.{IsStoreOf, changed_sound}

-- The tree with its accounts, what numbers stand for, the volumes, and the words of each page are as before.
pub record ShowsAs (old new : Storage) : Type 0 where
  pub accounts : new.accounts ≡ old.accounts
  pub known : new.links.known ≡ old.links.known
  pub whos : new.whos ≡ old.whos
  pub records : new.pages.records ≡ old.pages.records
  pub vtocs : new.pages.vtocs ≡ old.pages.vtocs
  pub words : (u q : ℕ) → is_there old.accounts.nodes u ≡ true
      → words_at new.pages u (home_of old.accounts u) q ≡ words_at old.pages u (home_of old.accounts u) q

-- one call after the other
pub then_as : {a b c : Storage} → ShowsAs a b → ShowsAs b c → ShowsAs a c
then_as {a} {b} {c} x y = record {
  accounts = cc;
  known = cc;
  whos = cc;
  records = cc;
  vtocs = cc;
  words = λ u q there. subst (λ (m : AccountMaps). is_there m.nodes u ≡ true
      → words_at c.pages u (home_of m u) q ≡ words_at b.pages u (home_of m u) q) x.accounts (y.words u q) there
      ∙ x.words u q there;
}

-- other active segments and other descriptors
pub tables_as : (st : Storage) (ast : ActiveSegs) (links : Links) → links.known ≡ st.links.known
    → ShowsAs st (record st { ast = ast; links = links })
tables_as st ast links known = record {
  accounts = refl;
  known = known;
  whos = refl;
  records = refl;
  vtocs = refl;
  words = λ u q h. refl;
}

pub same_as : (st : Storage) → ShowsAs st st
same_as st = tables_as st st.ast st.links refl

-- other frames, with the words that each page had
pub pages_as : (st : Storage) (pages : Plain) → pages.records ≡ st.pages.records → pages.vtocs ≡ st.pages.vtocs
    → ((u q : ℕ) → is_there st.accounts.nodes u ≡ true
    → words_at pages u (home_of st.accounts u) q ≡ words_at st.pages u (home_of st.accounts u) q)
    → ShowsAs st (with_pages st pages)
pages_as st pages records vtocs words = assumption

module _ {old new : Storage} (w : ShowsAs old new) where
  words_as : (u q : ℕ) → picture new.accounts (words_at new.pages) u q ≡ picture old.accounts (words_at old.pages) u q
  unfolding picture
  words_as u q = ap (λ (m : AccountMaps). picture m (words_at new.pages) u q) w.accounts
      ∙ by (is_there old.accounts.nodes u) refl
    where
      by : (b : Bool) → is_there old.accounts.nodes u ≡ b
          → cond b (words_at new.pages u (home_of old.accounts u) q) (replicate 1024 0)
          ≡ cond b (words_at old.pages u (home_of old.accounts u) q) (replicate 1024 0)
      by true e = w.words u q e
      by false e = refl

  filed_as : (u q : ℕ) → is_filed old.accounts old.pages.vtocs u q ≡ is_filed new.accounts new.pages.vtocs u q
  filed_as u q = cc

  -- it shows the same flat store
  pub faithful_as : (p : Plan) (x : Store) → IsFaithful p x old → IsFaithful p x new
  faithful_as p x h = record {
    tree = rw w.accounts h.tree;
    known = cc;
    pages = record {
      stored = λ u q. h.pages.stored u q ∙ filed_as u q;
      once = h.pages.once;
      words = λ u o. cc (h.pages.words u o, words_as u (o / 1024));
    };
    script = record {
      records = λ v. cc (h.script.records v);
      entries = λ v. cc (h.script.entries v);
      whos = cc;
    };
  }

-- The machine keeps its promise through such an action, which makes no call of a drive.
module _ {D : Type 0} {t now : Parts D} {c : ℕ} {a : Action} {v : State} (d : Does t c a)
    (is : now ≡ with_state t v) (done : v ≡ after t.state c a (no_call t.state))
    (same : shown_after t.state c (no_call t.state) a ≡ (λ x. x)) where
  pub stays_sound : ShowsAs t.state.store v.store → IsStoreOf now.state.store → IsSound now
  stays_sound shows told = changed_sound d (cc) (cc) told (λ x h. rw same (faithful_as now_shows t.state.plan x h))
    where
      now_shows : ShowsAs t.state.store now.state.store
      now_shows = rw is shows

  -- one that leaves the store as it is
  pub quiet_sound : v.store ≡ t.state.store → IsSound now
  quiet_sound store = stays_sound (rw store (same_as t.state.store))
      (rw (is, store) (assumption ((keeps_of d).store.kept, (keeps_of d).store.counted, (keeps_of d).store.accounts)))

-- ---- frames

-- a frame that isn't bound, before and after
pub unbound_put : (core : Core) (f : ℕ) (x : Frame) → bound_page (get_or core.frames f frame.Free) ≡ None
    → bound_page x ≡ None → bindings (with_frame core f x) ≡ bindings core
unbound_put core f x before now = map-set_same bound_page core.frames f x frame.Free (cc)

-- where the frames are bound as before, and words and volumes are, each page has the words that it had
pub words_stay : (a b : Plain) → bindings b.core ≡ bindings a.core → b.frames ≡ a.frames → b.disks ≡ a.disks
    → b.vtocs ≡ a.vtocs → (u q : ℕ) (accounts : AccountMaps)
    → words_at b u (home_of accounts u) q ≡ words_at a u (home_of accounts u) q
words_stay a b bound frames disks vtocs u q accounts = cc (picture_by (bindings b.core) (bindings a.core) b.frames
    a.frames b.disks a.disks b.vtocs a.vtocs bound frames disks vtocs)

-- another core map, in which each frame is bound as before
pub core_as : (st : Storage) (core : Core) → bindings core ≡ bindings st.pages.core
    → ShowsAs st (with_pages st (record st.pages { core = core }))
core_as st core bound = pages_as st (record st.pages { core = core }) refl refl
    (λ u q h. words_stay st.pages (record st.pages { core = core }) bound refl refl refl u q st.accounts)
