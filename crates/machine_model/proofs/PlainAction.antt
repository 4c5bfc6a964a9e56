-- No action answers by itself that a drive failed.
use Rattle.machine_model.proofs.Laws.{◌≡◌, ℕ, false, not, ◌&&◌, eqb, List, [], ◌∷◌, position, Option, Some, None, cond_both, reference_of, Command, Reference, What, Move, Transfer, sdws_at, table_of, word_of, next_out, Aim, Phase, Processor, action_of, flat_of, is_due, next_command, or_zero, processor_at, Owner, State, Move as move, Aim as aim, Phase as phase, Action, by_move, clear_or, come_to, copy_or_commit, finish_of, go_on_with, has_had_its_turn, is_empty, load_or_idle, look_of, move_of, once_cleared, own_or_run, refer_or_take, run_process, take_or_wait, transfer_or, Action as act, action_by, LookFinds, look_finds, command_plain, is_device, move_plainly, tells_device}

-- what it answers is a reply of the flat store
abbrev pub IsPlainly : Action → Type 0
IsPlainly (act.Plain r) = is_device r ≡ false
IsPlainly (act.Answer r) = is_device r ≡ false
IsPlainly _ = Unit {0}

module _ (s : State) (c : ℕ) where
  abbrev p : Processor
  p = processor_at s.processors c

  take_plain : (x : Option Owner) → IsPlainly (take_or_wait x)
  take_plain None = tt
  take_plain (Some q) = tt

  move_plain : (r : Reference) (x : Move) → tells_device x ≡ false → IsPlainly (by_move s.owner r x)
  move_plain r (move.Plain answer) h = h
  move_plain r move.Fault h = take_plain s.owner
  move_plain r _ h = tt

  come_plain : (k : ℕ) (x : Option Command) → IsPlainly (come_to s p.cpu k x)
  come_plain k None = take_plain s.owner
  come_plain k (Some cmd) = by (reference_of cmd)
    where
      by : (x : Option Reference) → IsPlainly (refer_or_take s p.cpu k x)
      by None = take_plain s.owner
      by (Some r) = move_plain r (move_of s p.cpu k r) (move_plainly p.cpu.assoc
          (sdws_at s.store.links.descriptors k) (word_of s.store.ast) r)

  run_plain : (x : Option ℕ) → IsPlainly (run_process s p x)
  run_plain None = by s.ready
    where
      by : (xs : List ℕ) → IsPlainly (load_or_idle s xs)
      by [] = tt
      by (k ∷ ks) = tt
  run_plain (Some k) = cond_both (has_had_its_turn p && not (is_empty s.ready)) act.Leave
      (come_to s p.cpu k (next_command s k)) IsPlainly (λ had. tt) (λ going. come_plain k (next_command s k))

  look_plain : (k : ℕ) (cmd : Command) (a : Action) → LookFinds s k cmd a → IsPlainly a
  look_plain k cmd (act.Answer r) h = cc (command_plain s.plan (flat_of s) k cmd)
  look_plain k cmd (act.Plain r) h = absurd h
  look_plain k cmd _ h = tt

  finish_plain : (a : Aim) (fs : List ℕ) → IsPlainly (finish_of a fs)
  finish_plain aim.Evicting [] = tt
  finish_plain aim.Evicting (f ∷ fs) = tt
  finish_plain (aim.Deactivating u) [] = tt
  finish_plain (aim.Deactivating u) (f ∷ fs) = tt
  finish_plain aim.Committing fs = tt

  phase_plain : (k : ℕ) (q : Owner) (x : Phase) → IsPlainly (go_on_with s k q x)
  phase_plain k q phase.Looking = by (next_command s k)
    where
      by : (x : Option Command) → IsPlainly (look_of s k x)
      by None = tt
      by (Some cmd) = look_plain k cmd (look_of s k (Some cmd)) (look_finds s k cmd)
  phase_plain k q (phase.Taken a w) = tt
  phase_plain k q (phase.Waiting a w) = by (position is_due s.processors)
    where
      by : (x : Option ℕ) → IsPlainly (once_cleared x (finish_of a q.frames))
      by None = finish_plain a q.frames
      by (Some d) = tt
  phase_plain k q (phase.Moving m) = by (next_out (table_of s.store.ast m.uid) m.next)
    where
      by : (x : Option ℕ) → IsPlainly (copy_or_commit m x)
      by None = tt
      by (Some page) = tt

  owner_plain : (x : Option Owner) → IsPlainly (own_or_run s c p x)
  owner_plain None = run_plain p.cpu.process
  owner_plain (Some q) = cond_both (eqb q.cpu c) (go_on_with s (or_zero p.cpu.process) q q.phase)
      (run_process s p p.cpu.process) IsPlainly (λ mine. phase_plain (or_zero p.cpu.process) q q.phase)
      (λ other. run_plain p.cpu.process)

  transfer_plain : (x : Option Transfer) → IsPlainly (transfer_or s c p x)
  transfer_plain (Some t) = tt
  transfer_plain None = owner_plain s.owner

  clear_plain : (x : Option What) → IsPlainly (clear_or s c p x)
  clear_plain (Some w) = tt
  clear_plain None = transfer_plain p.cpu.transfer

  pub plain_action : IsPlainly (action_of s c)
  plain_action = action_by IsPlainly s c tt tt (λ off. tt) (λ on. clear_plain p.cpu.due)
