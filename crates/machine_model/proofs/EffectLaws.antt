-- What a store has still once a job takes something, and once a command takes effect.
use Rattle.machine_model.proofs.Prelude.{ℕ, Bool, true, false, ◌%◌, ◌/◌, cond, eqb, List, [], ◌∷◌, Option, Some, None, Command, Entry, What, Row, Node, AccountMaps, parts_of, bound_page, Ptw, frame_in, words_in, Links, word_of, descriptor_cut, Aim, frame_entry, pages_past, stays, with_branch, with_cut, with_cut_in, with_deleted, with_effect, with_made, with_truncated, without_page, without_pages, are_zeros, cut_all, cut_one, here_if, leaving_if, take_all, take_one, took, with_here, State, Storage, with_pages, with_word, Command as command, Entry as entry, Ptw as ptw, effects_cut as cut, cond_both, is_active, erased, frames_freed, home_in, with_inactive, ◌≡◌, refl}

-- ---- a segment is cut off

-- A property that a store keeps without a page, with the words of a frame cut, and with a page that is here again.
pub record SurvivesCuts (P : Storage → Type 0) : Type 0 where
  pub without : (st : Storage) (u p : ℕ) (w : Ptw) → P st → P (without_page st u p w)
  pub shortened : (st : Storage) (f at : ℕ) → P st → P (with_pages st (cut st.pages f at))
  pub here : (st : Storage) (f u p : ℕ) → P st → P (with_word st u p (ptw.Here f))

module _ (P : Storage → Type 0) (survives : SurvivesCuts P) where
  pages_have : (st : Storage) (u : ℕ) (ps : List ℕ) → P st → P (without_pages st u ps)
  pages_have st u [] h = h
  pages_have st u (p ∷ ps) h = pages_have (without_page st u p (word_of st.ast u p)) u ps
      (survives.without st u p (word_of st.ast u p) h)

  here_has : (st : Storage) (f : ℕ) → P st → P (with_here st f)
  here_has st f h = by (bound_page (frame_in st.pages f))
    where
      by : (x : Option (ℕ × ℕ)) → P (here_if st f x)
      by None = h
      by (Some page) = survives.here st f page.0 page.1 h

  cut_in_has : (st : Storage) (u p at f : ℕ) → P st → P (with_cut_in st u p at f)
  cut_in_has st u p at f h = let now = with_pages st (cut st.pages f at) in
      cond_both (are_zeros (words_in now.pages f)) (without_page now u p (ptw.Leaving f)) (with_here now f) P
      (λ e. survives.without now u p (ptw.Leaving f) (survives.shortened st f at h))
      (λ e. here_has now f (survives.shortened st f at h))

  cut_has : (st : Storage) (u p at : ℕ) (w : Ptw) → P st → P (with_cut st u p at w)
  cut_has st u p at (ptw.Leaving f) h = cut_in_has st u p at f h
  cut_has st u p at _ h = h

  pub truncated_has : (st : Storage) (u words : ℕ) → P st → P (with_truncated st u words)
  truncated_has st u words h = pages_have _ u (pages_past st u words) (cond_both (eqb (words % 1024) 0) st _ P (λ e. h)
      (λ e. cut_has st u (words / 1024) (words % 1024) (word_of st.ast u (words / 1024)) h))

-- ---- each command

-- what the entries of a page that is back and of one that is gone have, the entry of a frame that was taken has
pub frame_entry_has : (P : Entry → Type 0) (st : Storage) (c : Command) (f : ℕ) → P (entry.BackPage f)
    → P (entry.GonePage f) → P (frame_entry st c f)
frame_entry_has P st (command.Truncate path words) f back gone =
    cond_both (stays st words f) (entry.BackPage f) (entry.GonePage f) P (λ e. back) (λ e. gone)
frame_entry_has P st _ f back gone = gone

-- Any command keeps a property of the store that other accounts and numbers keep, a branch more, a segment cut off and
-- one deleted.
pub effect_has : (P : Storage → Type 0) (st : Storage) (k u : ℕ) (frames : List ℕ) (c : Command)
    → ((accounts : AccountMaps) (links : Links) → P (record st { accounts = accounts; links = links }))
    → ((n : Node) → P (with_branch st n)) → ((words : ℕ) → P (with_truncated st u words))
    → P (with_deleted st u frames) → P (with_effect st k u frames c)
effect_has P st k u frames c changes grows cuts goes = by c
  where
    made : (directory : Bool) (pages volume : ℕ) (rows : List Row) (x : Option (List (List ℕ) × List ℕ))
        → P (with_made st directory pages volume rows x)
    made directory pages volume rows None = changes st.accounts st.links
    made directory pages volume rows (Some parts) = grows _

    by : (c : Command) → P (with_effect st k u frames c)
    by (command.MkDir path volume) = made true 0 volume [] (parts_of path)
    by (command.MkSeg path pages volume) = made false pages volume _ (parts_of path)
    by (command.Truncate path words) = cuts words
    by (command.Delete path) = goes
    by _ = changes _ _

-- ---- a job takes pages, and then descriptors

-- a property that a store keeps where a page is on its way out, and where a descriptor is cut
module _ (P : Storage → Type 0) (leaves : (st : Storage) (f u p : ℕ) → P st → P (with_word st u p (ptw.Leaving f)))
    (cuts : (st : Storage) (k n : ℕ) → P st → P (record st { links = descriptor_cut st.links k n }))
    (c : ℕ) (a : Aim) (w : What) where
  take_all_has : (s : State) (fs : List ℕ) → P s.store → P (take_all s c a w fs).store
  take_all_has s [] h = h
  take_all_has s (f ∷ fs) h = take_all_has (take_one s c a w f) fs (by (bound_page (frame_in s.store.pages f)))
    where
      by : (o : Option (ℕ × ℕ)) → P (leaving_if s.store f o)
      by None = h
      by (Some page) = leaves s.store f page.0 page.1 h

  cut_all_has : (s : State) (pairs : List (ℕ × ℕ)) → P s.store → P (cut_all s c a w pairs).store
  cut_all_has s [] h = h
  cut_all_has s (x ∷ xs) h = cut_all_has (cut_one s c a w x) xs (cuts s.store x.0 x.1 h)

  pub took_has : (s : State) (fs : List ℕ) (pairs : List (ℕ × ℕ)) → P s.store → P (took s c a w fs pairs).store
  took_has s fs pairs h = cut_all_has (take_all s c a w fs) pairs (take_all_has s fs h)

-- ---- what no effect changes

pub record KeepsRest (old now : Storage) : Type 0 where
  pub sizes : now.ast.sizes ≡ old.ast.sizes
  pub moving : now.moving ≡ old.moving

pub effect_rests : (st : Storage) (k u : ℕ) (frames : List ℕ) (c : Command) → KeepsRest st (with_effect st k u frames c)
effect_rests st k u frames c = effect_has (KeepsRest st) st k u frames c (λ accounts links. rests refl refl)
    (λ n. rests refl refl) (λ words. truncated_has (KeepsRest st) (record {
      without = page_cut;
      shortened = λ t f at h. rests h.sizes h.moving;
      here = λ t f u p h. rests h.sizes h.moving;
    }) st u words (rests refl refl))
    (rests (by (λ (x : Storage). x.ast.sizes ≡ st.ast.sizes) refl refl) (by (λ (x : Storage). x.moving
    ≡ st.moving) refl refl))
  where
    gone : Storage
    gone = with_pages st (erased (frames_freed st.pages frames) (home_in st u))

    by : (P : Storage → Type 0) → P (with_inactive gone u) → P gone
        → P (cond (is_active st.ast u) (with_inactive gone u) gone)
    by P inactive active = cond_both (is_active st.ast u) (with_inactive gone u) gone P (λ e. inactive) (λ e. active)

    rests : {t : Storage} → t.ast.sizes ≡ st.ast.sizes → t.moving ≡ st.moving → KeepsRest st t
    rests sizes moving = assumption

    page_cut : (t : Storage) (v p : ℕ) (w : Ptw) → KeepsRest st t → KeepsRest st (without_page t v p w)
    page_cut t v p ptw.Null h = rests h.sizes h.moving
    page_cut t v p _ h = rests h.sizes h.moving
