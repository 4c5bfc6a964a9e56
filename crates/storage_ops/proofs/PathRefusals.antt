-- A path that can't be followed refuses a command.
use Rattle.storage_ops.proofs.Prelude.{◌≡◌, ℕ, true, List, Some, refl, Err, Reply, Node, branch_at, segment_at, is_refusal, refusal, branch_says, segment_says, arith}

pub segment_refuses : (ns : List Node) (path : List (List ℕ)) (e : Reply) → segment_at ns path ≡ Err e
    → is_refusal e ≡ true
segment_refuses = segment_says is_refusal true refl refl refl

pub branch_refuses : (ns : List Node) (path : List (List ℕ)) (e : Reply) → branch_at ns path ≡ Err e
    → is_refusal e ≡ true
branch_refuses = branch_says is_refusal true refl refl refl

-- what refuses is told
pub refusal_told : {e : Reply} → is_refusal e ≡ true → Some e ≡ refusal e
refusal_told {e} is = grind arith
