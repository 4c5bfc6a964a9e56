-- Accounts and what they are charged for, over functions: the directories above a node, and the quota of each
-- (Organick 1972).
use Rattle.std.specs.Prelude.{ℕ, Bool, false, ◌+◌, ◌==◌, ◌||◌, ◌&&◌, not, nat_lt, List, [], ◌∷◌, if◌then◌else◌}
use Rattle.tree_model.specs.Tree.{account}

-- the value beside a uid, 0 where it has none
abbrev pub look : List ℕ → List ℕ → ℕ → ℕ
look [] vs u = 0
look (k ∷ ks) [] u = 0
look (k ∷ ks) (v ∷ vs) u = if k == u then v else look ks vs u

-- whether a uid is there
abbrev pub has : List ℕ → ℕ → Bool
has [] u = false
has (k ∷ ks) u = k == u || has ks u

-- the values with that beside a uid set
abbrev pub with_value : List ℕ → List ℕ → ℕ → ℕ → List ℕ
with_value [] vs u v = vs
with_value (k ∷ ks) [] u v = []
with_value (k ∷ ks) (w ∷ ws) u v = if k == u then v ∷ ws else w ∷ with_value ks ws u v

-- the values with one more, where a uid that isn't there would stand in their order
abbrev pub with_beside : List ℕ → List ℕ → ℕ → ℕ → List ℕ
with_beside [] vs u v = v ∷ vs
with_beside (k ∷ ks) [] u v = v ∷ []
with_beside (k ∷ ks) (w ∷ ws) u v = if nat_lt u k then v ∷ w ∷ ws else w ∷ with_beside ks ws u v

-- the values without that beside a uid
abbrev pub without_beside : List ℕ → List ℕ → ℕ → List ℕ
without_beside [] vs u = vs
without_beside (k ∷ ks) [] u = []
without_beside (k ∷ ks) (w ∷ ws) u = if k == u then ws else w ∷ without_beside ks ws u

-- The directories above a node, the nearest first: whether one of them has the node's pages below it with no account
-- between, so that no lower account takes them.
abbrev pub covers : (ℕ → ℕ) → List ℕ → ℕ → Bool
covers quota [] e = false
covers quota (x ∷ xs) e = x == e || (quota x == 0 && covers quota xs e)

-- the sum of the values beside the uids that pass a test
abbrev pub weigh : (ℕ → Bool) → List ℕ → List ℕ → ℕ
weigh test [] ws = 0
weigh test (k ∷ ks) [] = 0
weigh test (k ∷ ks) (w ∷ ws) = (if test k then w else 0) + weigh test ks ws

-- the stored pages below a directory that no lower account takes, from scratch
abbrev pub load : (ℕ → List ℕ) → (ℕ → ℕ) → List ℕ → List ℕ → ℕ → ℕ
load up quota segments stored e = weigh (λ s. covers quota (up s) e) segments stored

-- the stored pages of the segments whose account this is, from scratch
abbrev pub charged_to : (ℕ → List ℕ) → (ℕ → ℕ) → List ℕ → List ℕ → ℕ → ℕ
charged_to up quota segments stored a = weigh (λ s. account quota (up s) == a) segments stored

-- the root, and each directory with a quota
abbrev pub is_an_account : (ℕ → ℕ) → ℕ → Bool
is_an_account quota a = a == 1 || not (quota a == 0)

-- the values beside the uids that pass a test, changed
abbrev pub changed_where : (ℕ → ℕ) → (ℕ → Bool) → List ℕ → List ℕ → List ℕ
changed_where change test [] ws = ws
changed_where change test (k ∷ ks) [] = []
changed_where change test (k ∷ ks) (w ∷ ws) = (if test k then change w else w) ∷ changed_where change test ks ws
