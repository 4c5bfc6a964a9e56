use Rattle.make_work.proofs.Prelude.{◌≡◌, ◌++◌, ◌-◌, string_bytes, users_text}
use Rattle.make_work.proofs.lines.push_users.Given as goal

-- the lines of the users so far, before those of the others, are the lines of all
abbrev pub invariant-loop-j : goal.invariant-loop-j
invariant-loop-j l = string_bytes l.out ++ users_text l.j (5 - l.j) l.draws.state ≡ string_bytes l.initial.out
    ++ users_text 1 4 l.initial.draws.state
