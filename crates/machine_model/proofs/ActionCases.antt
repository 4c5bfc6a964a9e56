-- What is true of the action of a step, by the rules in their order.
use Rattle.machine_model.proofs.Prelude.{◌≡◌, ℕ, true, false, not, cond_both, Outcome, by_outcome, action_of, clear_or, is_over, processor_at, State, Action, Action as act}

-- a stopped machine, one whose processes have ended, a processor that comes online, and one that takes part
pub action_by : (P : Action → Type 0) (s : State) (c : ℕ) → P act.IsStopped → P act.HasEnded
    → (not (processor_at s.processors c).cpu.online ≡ true → P act.Online)
    → (not (processor_at s.processors c).cpu.online ≡ false
    → P (clear_or s c (processor_at s.processors c) (processor_at s.processors c).cpu.due)) → P (action_of s c)
unfolding action_of
action_by P s c stopped ended online clear = cond_both s.stopped act.IsStopped _ P (λ h. stopped)
    (λ h. cond_both (is_over s) act.HasEnded _ P (λ e. ended)
    (λ e. cond_both (not (processor_at s.processors c).cpu.online) act.Online _ P online clear))

-- what is so of a call that went well and of one that failed is so of the one that came
pub by_end : (P : State → Type 0) (o : Outcome) (well ill : State) → (o.failed ≡ false → P well)
    → (o.failed ≡ true → P ill) → P (by_outcome o well ill)
by_end P o well ill w i = cond_both o.failed ill well P i w
