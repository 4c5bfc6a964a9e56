-- What custody sees of a machine whose job takes pages and cuts descriptors.
use Rattle.machine_model.proofs.Basics.{◌≡◌, ◌≢◌, ◌<◌, ℕ, true, List, [], ◌∷◌, ◌++◌, length, set, get_or, Option, Some, None, ◌⊎◌, inl, inr, refl, sym, ap, subst, ◌∙◌, leb_tells, get_or_past, length-set, What, bound_page, Ptw, frame_in, ActiveSegs, Sdw, Links, place_of, sdws_at, word_of, unlinked, worded, has, at_put_two, Aim, page_at, takes, cut, taken, with_descriptor_cut, with_frame_taken, AreDistinct, led_to, seen, cut_one, leaving_if, note_of, take_all, take_one, descriptor_of, Seen, State, with_word, has_head, has_tail, Entry as entry, Frame as frame, Ptw as ptw, Sdw as sdw, map_list, put_lists, within_by, put_two_map, none_some, word_laws_word_put as word_put, word_within}
use Rattle.machine_model.proofs.ChainLaws.{here_after}

-- ---- pages

-- what a frame is bound to, by the core map
pub binding_is : (s : State) (f : ℕ) → (seen s).bound f ≡ bound_page (frame_in s.store.pages f)
binding_is s f = map_list bound_page s.store.pages.core.frames f frame.Free

-- there are as many page tables as places
abbrev pub HasTables : State → Type 0
HasTables s = length s.store.ast.tables ≡ length s.store.ast.entries

-- the word of one page that isn't `Null` becomes another
pub words_put : (ast : ActiveSegs) (u p : ℕ) (w : Ptw) → length ast.tables ≡ length ast.entries
    → word_of ast u p ≢ ptw.Null → (v q : ℕ)
    → word_of (worded ast u p w) v q ≡ at_put_two (λ x y. word_of ast x y) u p w v q
words_put ast u p w tables some = let within = word_within ast u p some in
    word_put ast u p w (rw (← tables) within.0) within.0 within.1

pub not_null : {w x : Ptw} (f : ℕ) → w ≡ x → (x ≡ ptw.Here f) ⊎ (x ≡ ptw.Leaving f) → w ≢ ptw.Null
not_null f e (inl h) n = let no = sym h ∙ (sym e ∙ n) in cc
not_null f e (inr h) n = let no = sym h ∙ (sym e ∙ n) in cc

pub take_one_seen : (s : State) (c : ℕ) (a : Aim) (w : What) (f u p : ℕ) → HasTables s → (seen s).bound f ≡ Some (u, p)
    → (seen s).words u p ≡ ptw.Here f → seen (take_one s c a w f) ≡ taken (seen s) c a w f u p
take_one_seen s c a w f u p tables bound here = cc (binding_is s f, bound, words)
  where
    words : seen (record s {
      store = with_word s.store u p (ptw.Leaving f);
      owner = with_frame_taken s.owner c a w f;
      entries = s.entries ++ entry.Take f ∷ [];
    }) ≡ taken (seen s) c a w f u p
    words = λ i. record (taken (seen s) c a w f u p) {
      words = λ v q. words_put s.store.ast u p (ptw.Leaving f) tables (not_null f here (inl refl)) v q i;
    }

-- the tables are as many after a word has changed
pub tables_kept : (s : State) (f : ℕ) (o : Option (ℕ × ℕ)) → HasTables s
    → length (leaving_if s.store f o).ast.tables ≡ length (leaving_if s.store f o).ast.entries
tables_kept s f None tables = tables
tables_kept s f (Some page) tables = length-set s.store.ast.tables (place_of s.store.ast.entries page.0) _ ∙ tables

pub take_all_seen : (s : State) (c : ℕ) (a : Aim) (w : What) (fs : List ℕ) → HasTables s
    → ((f : ℕ) → has fs f ≡ true → (seen s).words (page_at (seen s) f).0 (page_at (seen s) f).1 ≡ ptw.Here f)
    → ((f : ℕ) → has fs f ≡ true → (seen s).bound f ≡ Some (page_at (seen s) f))
    → AreDistinct fs → seen (take_all s c a w fs) ≡ takes (seen s) c a w fs
take_all_seen s c a w [] tables here bound once = refl
take_all_seen s c a w (f ∷ fs) tables here bound once = cc (
  take_all_seen now c a w fs
      (tables_kept s f (bound_page (frame_in s.store.pages f)) tables) here_still bound_still once.1,
  one,
)
  where
    now : State
    now = take_one s c a w f

    u : ℕ
    u = (page_at (seen s) f).0

    p : ℕ
    p = (page_at (seen s) f).1

    one : seen now ≡ taken (seen s) c a w f u p
    one = take_one_seen s c a w f u p tables (bound f (has_head f fs)) (here f (has_head f fs))

    bound_still : (g : ℕ) → has fs g ≡ true → (seen now).bound g ≡ Some (page_at (seen now) g)
    bound_still g h = subst (λ (v : Seen). v.bound g ≡ Some (page_at v g)) (sym one) (bound g (has_tail f fs g h))

    here_still : (g : ℕ) → has fs g ≡ true → (seen now).words (page_at (seen now) g).0 (page_at (seen now) g).1
        ≡ ptw.Here g
    here_still g h = subst (λ (v : Seen). v.words (page_at v g).0 (page_at v g).1 ≡ ptw.Here g) (sym one)
        (here_after (seen s) c a w f fs (here f (has_head f fs)) once.0 here g h)

-- ---- descriptors

-- the place that a descriptor leads to, where it leads to a segment
pub led_place : (s : State) (k n : ℕ) {u : ℕ} → (seen s).linked k n ≡ Some u
    → descriptor_of s.store.links k n ≢ sdw.Fault
led_place s k n h e = none_some (sym (cc) ∙ h)

-- a descriptor that leads somewhere is in its lists
pub linked_within : (links : Links) (k n : ℕ) → descriptor_of links k n ≢ sdw.Fault
    → (k < length links.descriptors) × (n < length (sdws_at links.descriptors k))
linked_within links k n h = (
  within_by_words links.descriptors k n h,
  within_by (sdws_at links.descriptors k) n sdw.Fault h,
)
  where
    within_by_words : (dss : List (List Sdw)) (i j : ℕ) → get_or (get_or dss i []) j sdw.Fault ≢ sdw.Fault
        → i < length dss
    within_by_words dss i j x = elim (leb_tells (length dss) i) [
      | inl e ↦ absurd (x (cc (get_or_past dss i [] e.1)))
      | inr m ↦ m.1
    ]

-- one descriptor of one process is otherwise
pub descriptors_put : (links : Links) (trailers : List (List (ℕ × ℕ))) (k n : ℕ) (x : Sdw)
    → k < length links.descriptors → n < length (sdws_at links.descriptors k) → (i j : ℕ)
    → descriptor_of (record links {
      trailers = trailers;
      descriptors = set links.descriptors k (set (sdws_at links.descriptors k) n x);
    }) i j ≡ at_put_two (λ a b. descriptor_of links a b) k n x i j
descriptors_put links trailers k n x outer inner i j = put_lists links.descriptors k n x sdw.Fault i j outer inner

pub cut_one_seen : (s : State) (c : ℕ) (a : Aim) (w : What) (pair : ℕ × ℕ) {u : ℕ}
    → (seen s).linked pair.0 pair.1 ≡ Some u
    → seen (cut_one s c a w pair) ≡ cut (seen s) c a w
    (note_of s.store pair.0 pair.1 (descriptor_of s.store.links pair.0 pair.1))
cut_one_seen s c a w pair {u} linked = by (descriptor_of s.store.links pair.0 pair.1) refl
  where
    by : (x : Sdw) → descriptor_of s.store.links pair.0 pair.1 ≡ x
        → seen (cut_one s c a w pair) ≡ cut (seen s) c a w (note_of s.store pair.0 pair.1 x)
    by sdw.Fault e = absurd (led_place s pair.0 pair.1 linked e)
    by (sdw.Present aste m pages) e = cc (e, links)
      where
        links : seen (record s {
          store = record s.store { links = unlinked s.store.links pair.0 pair.1 (Some aste) };
          owner = with_descriptor_cut s.owner c a w (note_of s.store pair.0 pair.1 (sdw.Present aste m pages));
          entries = s.entries ++ entry.Cut pair.0 pair.1 ∷ [];
        }) ≡ cut (seen s) c a w (note_of s.store pair.0 pair.1 (sdw.Present aste m pages))
        links = λ i. record (cut (seen s) c a w (note_of s.store pair.0 pair.1 (sdw.Present aste m pages))) {
          linked = λ j n. (ap (led_to s.store.ast.entries)
              (descriptors_put s.store.links (unlinked s.store.links pair.0 pair.1 (Some aste)).trailers
              pair.0 pair.1 sdw.Fault within.0 within.1 j n) ∙ put_two_map (led_to s.store.ast.entries)
              (λ x y. descriptor_of s.store.links x y) pair.0 pair.1 sdw.Fault j n) i;
        }
          where
            within : (pair.0 < length s.store.links.descriptors) ×
                (pair.1 < length (sdws_at s.store.links.descriptors pair.0))
            within = linked_within s.store.links pair.0 pair.1 (led_place s pair.0 pair.1 linked)
