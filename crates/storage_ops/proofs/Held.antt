-- What the fields of a store hold in a call of its own is what is told of the store: facts of the one are facts of the
-- other.
use Rattle.storage_ops.proofs.Prelude.{◌≡◌, ◌<◌, ℕ, true, List, Option, sym, subst, Who, AccountMaps, Plan, Store, IsActive, Leaving, frame_at, is_bound, Home, number_in, plain, Control, table_of, word_of, IsHomeFor, IsStore, Shows, ShowsTree, Storage, home_of, is_there, pages_in}

-- what the fields hold, where they hold what is told
abbrev pub held : {A : Type 0} {fields told : A} → fields ≡ told → A
held {A} {fields} {told} same = fields

-- a store keeps what is true of it where segment control is what an effect says
pub store_after : {D : Type 0} (drive : D → List (List ℕ)) (a : AccountMaps) (whos : List Who) {new effect : Control D}
    → new ≡ effect → IsStore (plain drive effect.pages) effect.ast effect.links a whos
    → IsStore (plain drive new.pages) new.ast new.links a whos
store_after {D} drive a whos is = subst (λ (x : Control D). IsStore (plain drive x.pages) x.ast x.links a whos) (sym is)

module _ {D : Type 0} {t now : Storage D} (same : t ≡ now) where
  pub shown_held : {drive : D → List (List ℕ)} {p : Plan} {s : Store} → Shows drive p s now → Shows drive p s t
  shown_held {drive} {p} {s} = subst (λ (x : Storage D). Shows drive p s x) (sym same)

  pub tree_held : {s : Store} → ShowsTree s now.accounts → ShowsTree s t.accounts
  tree_held {s} = subst (λ (x : Storage D). ShowsTree s x.accounts) (sym same)

  pub there_held : (u : ℕ) → is_there now.accounts.nodes u ≡ true → is_there t.accounts.nodes u ≡ true
  there_held u there = cc

  pub home_held : (u : ℕ) {home : Home} → home ≡ home_of now.accounts u → home ≡ home_of t.accounts u
  home_held u is = cc

  pub active_held : {u : ℕ} → IsActive now.segs.ast.entries u → IsActive t.segs.ast.entries u
  active_held {u} = subst (λ (x : Storage D). IsActive x.segs.ast.entries u) (sym same)

  pub word_held : (u q : ℕ) → word_of t.segs.ast u q ≡ word_of now.segs.ast u q
  word_held u q = cc

  pub length_held : (u q : ℕ) → q < pages_in now.accounts.nodes u → q < pages_in t.accounts.nodes u
  length_held u q = subst (λ (x : Storage D). q < pages_in x.accounts.nodes u) (sym same)

  pub bound_held : (f : ℕ) → is_bound (frame_at now.segs.pages.core f) ≡ true
      → is_bound (frame_at t.segs.pages.core f) ≡ true
  bound_held f bound = cc

  pub leaving_held : (u : ℕ) {f : ℕ} → word_of now.segs.ast u (number_in (frame_at now.segs.pages.core f)) ≡ Leaving f
      → word_of t.segs.ast u (number_in (frame_at t.segs.pages.core f)) ≡ Leaving f
  leaving_held u {f} = subst (λ (x : Storage D). word_of x.segs.ast u (number_in (frame_at x.segs.pages.core f))
      ≡ Leaving f) (sym same)

  pub known_held : {known : List (List (Option ℕ))} → known ≡ now.segs.links.known → known ≡ t.segs.links.known
  known_held is = cc

  pub home_for_held : (drive : D → List (List ℕ)) {u : ℕ} {home : Home}
      → IsHomeFor (plain drive now.segs.pages) u home (table_of now.segs.ast u)
      → IsHomeFor (plain drive t.segs.pages) u home (table_of t.segs.ast u)
  home_for_held drive {u} {home} = subst (λ (x : Storage D). IsHomeFor (plain drive x.segs.pages) u home
      (table_of x.segs.ast u)) (sym same)
