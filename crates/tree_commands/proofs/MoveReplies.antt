-- What the move of quota is answered, by the answer of the quota cells.
use Rattle.tree_commands.proofs.Prelude.{◌≡◌, ℕ, ℤ, Bool, true, false, cond, List, Option, Some, None, Result, Ok, Err, refl, ◌∙◌, ◌≤◌, pos, ap, subst, sym, nat_lt, is_positive, unsigned_abs, Reply, giver_of, over_in, tree_moved, Node, above, quota_in, used_by, MoveFault, over_answer, scratch_answer, directory_at, done_or_over, move_reply, Store, move_of_none}
use Rattle.book.specs.declared.replies.Reply.TheVariants as reply
use Rattle.quota_cells.specs.declared.MoveFault.TheVariants as fault
use Rattle.flat_model.proofs.TreeReplies as replies

abbrev pub move_told : Result (Unit {0}) MoveFault → Reply
move_told (Ok x) = reply.Done
move_told (Err fault.TooLittle) = reply.TooLittle
move_told (Err (fault.Over u)) = reply.Over u

pub move_answered : (s : Store) (nodes : List Node) (path : List (List ℕ)) (same : s.nodes ≡ nodes) (amount : ℤ) (n :
    Node)
    (r : Result (Unit {0}) MoveFault) (given : Reply)
    → directory_at nodes path ≡ Ok n
    → r ≡ scratch_answer nodes s.stored n.uid (is_positive amount) (unsigned_abs amount) → given ≡ move_told r
    → given ≡ move_reply s path amount
move_answered s nodes path same amount n r given e is told =
    replies.move_told s nodes path same amount n given e (told ∙ ap move_told is
    ∙ both (nat_lt (quota_in nodes (giver_of (above nodes) n.uid (is_positive amount))) (unsigned_abs amount))
    (over_in (tree_moved nodes n.uid (is_positive amount) (unsigned_abs amount)) s.stored))
  where
    over : (o : Option ℕ) → move_told (over_answer o) ≡ done_or_over o
    over None = refl
    over (Some u) = refl

    both : (z : Bool) (o : Option ℕ)
        → move_told (cond z (Err fault.TooLittle) (over_answer o)) ≡ cond z reply.TooLittle (done_or_over o)
    both true o = refl
    both false o = over o

-- so by an answer at an amount that is the same
pub move_given : (s : Store) (nodes : List Node) (path : List (List ℕ)) → s.nodes ≡ nodes → (amount given : ℤ)
    → given ≡ amount → (n : Node) (r told : Result (Unit {0}) MoveFault) → directory_at nodes path ≡ Ok n
    → r ≡ scratch_answer nodes s.stored n.uid (is_positive given) (unsigned_abs given) → r ≡ told
    → move_told told ≡ move_reply s path amount
move_given s nodes path same amount given back n r told e answer is =
    move_answered s nodes path same amount n r (move_told told) e
    (answer ∙ ap (λ (a : ℤ). scratch_answer nodes s.stored n.uid (is_positive a) (unsigned_abs a)) back)
    (ap move_told (sym is))

-- a move of nothing
pub move_nothing : (s : Store) (nodes : List Node) (path : List (List ℕ)) → s.nodes ≡ nodes → (amount given : ℤ)
    → given ≡ amount → given ≡ pos 0 → (n : Node) → directory_at nodes path ≡ Ok n
    → ((a : ℕ) → used_by nodes s.stored a ≤ quota_in nodes a) → reply.Done ≡ move_reply s path amount
move_nothing s nodes path same amount given back none n e within =
    move_of_none s nodes path n amount same e (sym back ∙ none)
    (subst (λ (ns : List Node). (a : ℕ) → used_by ns s.stored a ≤ quota_in ns a) (sym same) within)
