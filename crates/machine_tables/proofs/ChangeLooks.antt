-- The look for a tree command that nothing refuses, by the command.
use Rattle.machine_tables.proofs.Prelude.{◌≡◌, ◌≢◌, ℕ, true, is_some, cond, List, None, refl, ap, ◌∙◌, Command, is_there, empty_when_read, look_to_change, look_to_take, with_chain, with_cut_page, Keeps, is_active, refusal_of, uid_of_command, State, Storage, truncate_stands, Command as command, Action as act}

-- the segment of a `truncate` that nothing refuses is there
pub truncate_there : (s : State) (k : ℕ) → Keeps s → (path : List (List ℕ)) (words : ℕ) (c : Command)
    → c ≡ command.Truncate path words → refusal_of s k c ≡ None → (u : ℕ) → u ≡ uid_of_command s.store k c
    → is_there s.store.accounts.nodes u ≡ true
truncate_there s k keeps path words c is stands u its =
    let leads = truncate_stands s k keeps path words (rw (← is) stands) in
    rw (its ∙ ap (uid_of_command s.store k) is ∙ leads.uid) (ap is_some leads.there)

module _ (st : Storage) (k : ℕ) where
  pub changes_truncate : (path : List (List ℕ)) (words : ℕ) (c : Command) → c ≡ command.Truncate path words
      → (u v : ℕ) → u ≡ v → with_chain st u (with_cut_page st u words (look_to_take st k u c)) ≡ look_to_change st k v c
  changes_truncate path words c is u v same = cc

  pub changes_length : (path : List (List ℕ)) (pages : ℕ) (c : Command) → c ≡ command.Length path pages
      → (u v : ℕ) → u ≡ v
      → cond (is_active st.ast u) (empty_when_read st.pages.core u (act.Empty u)) act.Commit ≡ look_to_change st k v c
  changes_length path pages c is u v same = cc

  by_itself : (u : ℕ) (c : Command) → ((path : List (List ℕ)) (words : ℕ) → c ≢ command.Truncate path words)
      → ((path : List (List ℕ)) (pages : ℕ) → c ≢ command.Length path pages)
      → look_to_take st k u c ≡ look_to_change st k u c
  by_itself u (command.Truncate path words) a b = absurd (a path words refl)
  by_itself u (command.Length path pages) a b = absurd (b path pages refl)
  by_itself u _ a b = refl

  pub changes_else : (c : Command) → ((path : List (List ℕ)) (words : ℕ) → c ≢ command.Truncate path words)
      → ((path : List (List ℕ)) (pages : ℕ) → c ≢ command.Length path pages) → (u v : ℕ) → u ≡ v
      → look_to_take st k u c ≡ look_to_change st k v c
  changes_else c a b u v same = cc (by_itself u c a b)

pub ruleset changes_told = (changes_else, changes_truncate, truncate_there)
