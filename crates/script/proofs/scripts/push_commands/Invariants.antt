use Rattle.script.proofs.Prelude.{◌≡◌, ◌++◌, take, flat_map, string_bytes, ended, command_text}
use Rattle.script.proofs.scripts.push_commands.Given as goal

abbrev pub invariant-loop-command : goal.invariant-loop-command
invariant-loop-command l = string_bytes l.out ≡ string_bytes l.fn.out
    ++ flat_map (λ c. ended (command_text l.volumes c)) (take l.command-index l.commands)
