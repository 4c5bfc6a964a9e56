-- What refuses a path: a test of replies that says the same of each refusal says it of what refuses a path.
use Rattle.flat_model.proofs.Prelude.{arith, common_steps, nat_tests, ◌≡◌, ℕ, false, List, [], ◌∷◌, Err, ap, refl, sym, ◌∙◌, Reply, Node, Walk, LeadsTo, Missing, InSegment, walk_in, branch_at, directory_at, node_at, segment_at, walked, takes_effect, reply}

module _ {X : Type 0} (says : Reply → X) (x : X) (missing : says reply.NoPath ≡ x) (in_segment : says reply.NotDir ≡ x)
  where
    walk_says : (nodes : List Node) (w : Walk) (r : Reply) → walked nodes w ≡ Err r → says r ≡ x
    walk_says nodes (LeadsTo u) r e = grind (arith, nat_tests, common_steps)
    walk_says nodes Missing r e = (let is : reply.NoPath ≡ r = cc in ap says (sym is) ∙ missing)
    walk_says nodes InSegment r e = (let is : reply.NotDir ≡ r = cc in ap says (sym is) ∙ in_segment)

    pub node_says : (nodes : List Node) (path : List (List ℕ)) (r : Reply) → node_at nodes path ≡ Err r → says r ≡ x
    unfolding node_at
    node_says nodes path r e = walk_says nodes (walk_in nodes path) r e

    pub segment_says : says reply.IsDir ≡ x → (nodes : List Node) (path : List (List ℕ)) (r : Reply)
        → segment_at nodes path ≡ Err r → says r ≡ x
    segment_says dir nodes path r e = grind (arith, nat_tests, common_steps, node_says)

    pub branch_says : says reply.Root ≡ x → (nodes : List Node) (path : List (List ℕ)) (r : Reply)
        → branch_at nodes path ≡ Err r → says r ≡ x
    branch_says root nodes [] r e = (let is : reply.Root ≡ r = cc in ap says (sym is) ∙ root)
    branch_says root nodes (name ∷ names) r e = node_says nodes (name ∷ names) r e

-- ---- it takes no effect

pub node_refuses : (nodes : List Node) (path : List (List ℕ)) (r : Reply) → node_at nodes path ≡ Err r
    → takes_effect r ≡ false
node_refuses = node_says takes_effect false refl refl

pub segment_refuses : (nodes : List Node) (path : List (List ℕ)) (r : Reply) → segment_at nodes path ≡ Err r
    → takes_effect r ≡ false
segment_refuses = segment_says takes_effect false refl refl refl

pub branch_refuses : (nodes : List Node) (path : List (List ℕ)) (r : Reply) → branch_at nodes path ≡ Err r
    → takes_effect r ≡ false
branch_refuses = branch_says takes_effect false refl refl refl

pub directory_refuses : (nodes : List Node) (path : List (List ℕ)) (r : Reply) → directory_at nodes path ≡ Err r
    → takes_effect r ≡ false
directory_refuses nodes path r e = grind (arith, nat_tests, common_steps, branch_refuses)
