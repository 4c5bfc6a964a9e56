-- A segment that was taken whole is empty once its pages have left: no page of it is in a frame or being read, no
-- descriptor leads to it, and it has no active inferior.
use Rattle.machine.proofs.Prelude.{◌≡◌, ◌≢◌, ◌<◌, ℕ, zero, suc, true, false, get_or, List, ◌∷◌, Option, Some, is_some, length, arith, None, refl, sym, ap, ◌∙◌, All, Node, node_in, Ptw, HasNoInferior, IsAway, entry_at, superior_of, uid_at, uid_in, trailers_of, place_of, table_of, is_there, superior_in, names, holding, seen, Keeps, frames_of_owner, is_active, trailers_in, State, IsWhole, active_place, trailers_taken, ArePairs, active_at, no_page_left, IsEmptied, eqb-true, eqb_self, some_same, [], What as what, Ptw as ptw}
use Rattle.active_segs.specs.declared.Entry.{Entry}

-- a word that names no frame is of a page that is away
word_away : (w : Ptw) → ((f : ℕ) → names w ≢ Some f) → IsAway w
word_away (ptw.Here f) h = h f refl
word_away (ptw.Leaving f) h = h f refl
word_away _ h = tt

within_same : (ws : List Ptw) (p : ℕ) (d : Ptw) → p < length ws → get_or ws p ptw.Null ≡ get_or ws p d
within_same [] p d lt = absurd (omega arith)
within_same (w ∷ ws) zero d lt = refl
within_same (w ∷ ws) (suc p) d lt = within_same ws p d (omega arith)

words_away : (ws : List Ptw) → ((p f : ℕ) → names (get_or ws p ptw.Null) ≢ Some f) → All IsAway ws
words_away ws h p d lt = word_away (get_or ws p d) (λ f e. h p f (cc (within_same ws p d lt)))

-- what has a superior is there
has_superior : (o : Option Entry) (u : ℕ) → superior_of o ≡ Some u → (v : ℕ) × (uid_in o ≡ Some v)
has_superior None u h = cc
has_superior (Some e) u h = (e.uid, refl)

module _ (s : State) (u : ℕ) (k : Keeps s) (whole : IsWhole (holding s) u) (frames : frames_of_owner s.owner ≡ [])
    (active : is_active s.store.ast u ≡ true)
    (inferiors : (v : ℕ) → is_active s.store.ast v ≡ true → superior_in (node_in s.store.accounts.nodes v) ≢ Some u)
  where
    abbrev place : ℕ
    place = place_of s.store.ast.entries u

    its_place : uid_at s.store.ast.entries place ≡ Some u
    its_place = (active_place s.store.ast u active).1

    -- no page of it is in a frame
    unbound : (f p : ℕ) → (seen s).bound f ≢ Some (u, p)
    unbound f p h = grind (arith, no_page_left)

    -- none is being read into one
    unread : (f p : ℕ) → (seen s).reads f ≢ Some (u, p)
    unread f p h = no_page_left (holding s) s.owner u k.book.going_owned whole frames f
        (cc (k.book.tied.unbound f u p h))

    -- no descriptor leads to it
    unlinked : (j n : ℕ) → (seen s).linked j n ≢ Some u
    unlinked j n e = grind arith

    no_trailers : (xs : List (ℕ × ℕ)) → ArePairs (seen s).linked (what.Seg u) xs → xs ≡ []
    no_trailers [] h = refl
    no_trailers (x ∷ xs) h = absurd (unlinked x.0 x.1 (cc (eqb-true h.0.0 u h.0.2)))

    trailers_none : trailers_of s.store.links.trailers place ≡ []
    trailers_none = cc (no_trailers (trailers_in s.store u) (trailers_taken s (what.Seg u) u k (eqb_self u)))

    leaf : HasNoInferior s.store.ast.entries place
    leaf q v at h = by (node_in s.store.accounts.nodes w.0) refl
      where
        same : ◌≡◌ {A = Option ℕ} (Some v) (Some u)
        same = sym at ∙ its_place

        w : (x : ℕ) × (uid_at s.store.ast.entries q ≡ Some x)
        w = has_superior (entry_at s.store.ast.entries q) v h

        its_active : is_active s.store.ast w.0 ≡ true
        its_active = active_at s.store.ast q w.0 w.1

        there : is_there s.store.accounts.nodes w.0 ≡ true
        there = k.store.counted.active.there q w.0 w.1

        by : (x : Option Node) → node_in s.store.accounts.nodes w.0 ≡ x → ⊥
        by None e = let no : false ≡ true = sym (ap is_some e) ∙ there in cc
        by (Some n) e = inferiors w.0 its_active (cc (e, k.store.counted.active.superiors q w.0 n w.1 e, h, same))

    pub emptied : IsEmptied s.store u
    emptied = record {
      active = (place, its_place);
      leaf = leaf;
      away = words_away (table_of s.store.ast u) (λ p f h. unbound f p (k.book.tied.back f u p h));
      idle = record {
        none = λ f v p at h. unread f p (cc (some_same v u (sym at ∙ its_place)));
      };
      cut = trailers_none;
    }
