-- Flat stores that no store tells apart, and what the accounts of a store say of the one that it shows.
use Rattle.machine_model.proofs.Prelude.{◌≡◌, ℕ, Bool, true, false, cond, List, [], ◌∷◌, ◌++◌, map, sum, Option, Some, None, refl, sym, subst, ◌∙◌, append-nil, list_all, Plan, command_at, Command, Entry, Reply, IsTree, AccountMaps, after_command, effect_of, gone_on, takes_effect, after_do, after_entry, after_fault, is_within, store_after, IsOnce, Store, progress_of, with_progress, store_after-push, all_within, ShowsTree, AreAccounts, IsConserved, IsFaithful, Storage, and_parts, Entry as entry}

-- ---- flat stores that no store tells apart

-- the same tree, words, stored pages and numbers
pub record IsAlike (t u : Store) : Type 0 where
  pub nodes : u.nodes ≡ t.nodes
  pub next : u.next ≡ t.next
  pub words : (v o : ℕ) → u.words v o ≡ t.words v o
  pub stored : u.stored ≡ t.stored
  pub known : u.known ≡ t.known

pub alike : (t : Store) → IsAlike t t
alike t = record { nodes = refl; next = refl; words = λ v o. refl; stored = refl; known = refl }

pub alike_on : {t u v : Store} → IsAlike t u → IsAlike u v → IsAlike t v
alike_on a b = record { nodes = cc; next = cc; words = λ w o. b.words w o ∙ a.words w o; stored = cc; known = cc }

pub alike_by : {t u v : Store} → IsAlike t u → v ≡ u → IsAlike t v
alike_by {t} a e = rw e a

-- a store shows each of them, or none
pub alike_shown : {p : Plan} {t : Store} (u : Store) {st : Storage} → IsAlike t u → IsFaithful p t st
    → IsFaithful p u st
alike_shown u a is = record {
  tree = record { nodes = cc; next = cc; counts = λ s. cc (is.tree.counts s) };
  known = cc;
  pages = record {
    stored = λ v q. cc (is.pages.stored v q);
    once = subst IsOnce (sym a.stored) is.pages.once;
    words = λ v o. a.words v o ∙ is.pages.words v o;
  };
  script = is.script;
}

-- ---- entries that tell who holds what, or that a drive failed

-- the flat store doesn't read them
abbrev pub is_still : Entry → Bool
is_still (entry.Do k place cpu frame r) = false
is_still (entry.Release u q) = false
is_still (entry.Fault k) = false
is_still (entry.Moved k u w) = false
is_still _ = true

still_next : (p : Plan) (t : Store) (e : Entry) → is_still e ≡ true → after_entry p t e ≡ t
unfolding after_entry
still_next p t (entry.Do k place cpu frame r) h = cc
still_next p t (entry.Release u q) h = cc
still_next p t (entry.Fault o) h = cc
still_next p t (entry.Moved k u w) h = cc
still_next p t _ h = refl

-- one such entry more
pub one_still : (p : Plan) (es : List Entry) (e : Entry) → is_still e ≡ true
    → store_after p (es ++ e ∷ []) ≡ store_after p es
one_still p es e h = store_after-push p es e ∙ still_next p (store_after p es) e h

pub append_assoc : (xs ys zs : List Entry) → (xs ++ ys) ++ zs ≡ xs ++ (ys ++ zs)
append_assoc [] ys zs = refl
append_assoc (x ∷ xs) ys zs = cc (append_assoc xs ys zs)

-- and some
pub all_still : (p : Plan) (es more : List Entry) → list_all is_still more ≡ true
    → store_after p (es ++ more) ≡ store_after p es
all_still p es [] h = cc (append-nil es)
all_still p es (e ∷ more) h = let both = and_parts (is_still e) (list_all is_still more) h in
    cc (append_assoc es (e ∷ []) more, all_still p (es ++ e ∷ []) more both.1, one_still p es e both.0)

-- a drive's failure
pub fault_alike : (p : Plan) (es : List Entry) (k : Option ℕ)
    → IsAlike (store_after p es) (store_after p (es ++ entry.Fault k ∷ []))
unfolding after_entry
fault_alike p es k = alike_by (by (store_after p es) k) (store_after-push p es (entry.Fault k))
  where
    by : (t : Store) (o : Option ℕ) → IsAlike t (after_fault t o)
    by t None = alike t
    by t (Some j) = record { nodes = refl; next = refl; words = λ v o. refl; stored = refl; known = refl }

-- ---- answers

-- a command that is refused changes nothing
do_refused : (p : Plan) (t : Store) (k : ℕ) (r : Reply) (x : Option Command) → takes_effect r ≡ false
    → IsAlike t (after_do p t k x r)
unfolding after_command
do_refused p t k r None h = alike t
do_refused p t k r (Some c) h = by (takes_effect r) h
  where
    by : (b : Bool) → b ≡ false
        → IsAlike t (with_progress (cond b (effect_of p t k c) t) k (gone_on (progress_of t k) c r))
    by false e = record { nodes = refl; next = refl; words = λ v o. refl; stored = refl; known = refl }
    by true e = cc

-- one that takes effect has its effect
do_done : (p : Plan) (t : Store) (k : ℕ) (r : Reply) (c : Command) → takes_effect r ≡ true
    → IsAlike (effect_of p t k c) (after_do p t k (Some c) r)
unfolding after_command
do_done p t k r c h = by (takes_effect r) h
  where
    by : (b : Bool) → b ≡ true
        → IsAlike (effect_of p t k c) (with_progress (cond b (effect_of p t k c) t) k (gone_on (progress_of t k) c r))
    by true e = record { nodes = refl; next = refl; words = λ v o. refl; stored = refl; known = refl }
    by false e = cc

pub refused_alike : (p : Plan) (es : List Entry) (k place c : ℕ) (f : Option ℕ) (r : Reply) → takes_effect r ≡ false
    → IsAlike (store_after p es) (store_after p (es ++ entry.Do k place c f r ∷ []))
unfolding after_entry
refused_alike p es k place c f r h = alike_by (do_refused p (store_after p es) k r (command_at p k place) h)
    (store_after-push p es (entry.Do k place c f r))

pub done_alike : (p : Plan) (es : List Entry) (k place c : ℕ) (f : Option ℕ) (r : Reply) {cmd : Command}
    → command_at p k place ≡ Some cmd → takes_effect r ≡ true
    → IsAlike (effect_of p (store_after p es) k cmd) (store_after p (es ++ entry.Do k place c f r ∷ []))
unfolding after_entry
done_alike p es k place c f r {cmd} next h = alike_by (do_done p (store_after p es) k r cmd h)
    (cc (store_after-push p es (entry.Do k place c f r), next))

-- ---- what the accounts say

-- each account of the flat store that is shown is within its quota
pub within_all : {t : Store} {a : AccountMaps} → ShowsTree t a → AreAccounts a → list_all (is_within t) t.nodes ≡ true
within_all {t} shows are = all_within t (subst IsTree (sym shows.nodes) are.tree)
    (λ account. (rw shows.nodes (are.within t.stored shows.counts account)))

pub conserved_by : (p : Plan) (t : Store) (st : Storage) → IsFaithful p t st → AreAccounts st.accounts
    → sum (map (λ n. n.quota) t.nodes) ≡ p.quota → IsConserved p t
conserved_by p t st shows are total = assumption (within_all shows.tree are)
