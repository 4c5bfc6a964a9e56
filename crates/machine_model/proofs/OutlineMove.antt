-- In the outline of the machine, each step of a move is a step of the owner's job.
use Rattle.machine_model.proofs.Basics.{◌≡◌, ◌<◌, ◌≤◌, ℕ, zero, suc, ◌+◌, ◌-◌, Bool, true, false, cond, List, [], ◌∷◌, map, Some, None, refl, sym, le_refl, arith, length, Command, Frame, Ptw, ptw_at, modified_of, Mover, table_of, first_out, next_out, is_filed, State, Owner, process_at, fault_told, with_faults, with_store, copy_failed, move_begun, move_committed, page_copied, with_moved, without_move, Copying, Look, at_stage, dues, HasMoved, JobStep, answers, begins_move, commits_move, copies, with_stored, around, bare, outline_of, runner_of, CanTell, full_there, Processor, Reply as reply, Frame as frame, is_out_word as is_out, Phase as phase, eqb, Option, ap, ◌∙◌, ◌*◌, ◌/◌, ◌==◌, nat_le, not, reverse, Result, Ok, Err, Who, new_word, permits, reference_of, Reference, Reply, access_of, Node, Walk, LeadsTo, above, branch_in, is_branch, node_in, onward, step_up, volume_in, walk_from, walk_in, with_node, chain_of, uid_of, node_at, only_segment, segment_at, there_or, walked, kst_at, who_at, Want, Refer, Other, Around, runner_by, want_by, want_in, want_known, want_lengthened, want_of, want_of_command, want_truncated, Command as command, ends_job, in_stage, in_look}

-- ---- What commands want of the tree is the same where segments lie on other volumes.

-- a node on another volume
abbrev placed : (Node → ℕ) → Node → Node
placed volume n = record n { volume = volume n }

abbrev pub all_placed : (Node → ℕ) → List Node → List Node
all_placed volume ns = map (placed volume) ns

-- one segment is put on a volume
abbrev pub put_on : ℕ → ℕ → Node → ℕ
put_on u v n = cond (eqb n.uid u) v n.volume

pub put_is : (u v : ℕ) (ns : List Node) → with_node ns u (λ n. record n { volume = v }) ≡ all_placed (put_on u v) ns
put_is u v ns = λ i. map (λ n. by (eqb n.uid u) n i) ns
  where
    by : (b : Bool) (n : Node) → cond b (record n { volume = v }) n ≡ record n { volume = cond b v n.volume }
    by true n = refl
    by false n = refl

-- and lies there
pub put_there : (u v : ℕ) (ns : List Node) (m : Node) → node_in ns u ≡ Some m
    → volume_in (all_placed (put_on u v) ns) u ≡ v
put_there u v [] m h = cc
put_there u v (n ∷ ns) m h = by (eqb n.uid u) h (put_there u v ns m)
  where
    by : (b : Bool) → cond b (Some n) (node_in ns u) ≡ Some m
        → (node_in ns u ≡ Some m → volume_in (all_placed (put_on u v) ns) u ≡ v)
        → cond b (cond b v n.volume) (volume_in (all_placed (put_on u v) ns) u) ≡ v
    by true e rest = refl
    by false e rest = rest e

module _ (volume : Node → ℕ) where
  abbrev moved : List Node → List Node
  moved ns = all_placed volume ns

  abbrev in_option : Option Node → Option Node
  in_option None = None
  in_option (Some n) = Some (placed volume n)

  abbrev in_result : Result Node Reply → Result Node Reply
  in_result (Ok n) = Ok (placed volume n)
  in_result (Err r) = Err r

  node_same : (ns : List Node) (u : ℕ) → node_in (moved ns) u ≡ in_option (node_in ns u)
  node_same [] u = refl
  node_same (n ∷ ns) u = by (eqb n.uid u) (node_same ns u)
    where
      by : (b : Bool) → node_in (moved ns) u ≡ in_option (node_in ns u)
          → cond b (Some (placed volume n)) (node_in (moved ns) u) ≡ in_option (cond b (Some n) (node_in ns u))
      by true rest = refl
      by false rest = rest

  branch_same : (ns : List Node) (d : ℕ) (name : List ℕ) → branch_in (moved ns) d name ≡ in_option (branch_in ns d name)
  branch_same [] d name = refl
  branch_same (n ∷ ns) d name = by (is_branch d name n) (branch_same ns d name)
    where
      by : (b : Bool) → branch_in (moved ns) d name ≡ in_option (branch_in ns d name)
          → cond b (Some (placed volume n)) (branch_in (moved ns) d name)
          ≡ in_option (cond b (Some n) (branch_in ns d name))
      by true rest = refl
      by false rest = rest

  above_same : (ns : List Node) (u : ℕ) → above (moved ns) u ≡ above ns u
  above_same [] u = refl
  above_same (n ∷ ns) u = λ i. cond (eqb n.uid u) (step_up (λ w. above_same ns w i) n.superior) (above_same ns u i)

  chain_same : (ns : List Node) (u : ℕ) → chain_of (moved ns) u ≡ chain_of ns u
  chain_same ns u = λ i. reverse (u ∷ above_same ns u i)

  walk_same : (ns : List Node) (names : List (List ℕ)) (d : ℕ) (b : Bool) → walk_from (moved ns) d b names
      ≡ walk_from ns d b names
  walk_same ns [] d b = refl
  walk_same ns (name ∷ names) d b = cc (branch_same ns d name, by b (branch_in ns d name) (walk_same ns names))
    where
      by : (x : Bool) (o : Option Node) → ((e : ℕ) (y : Bool) → walk_from (moved ns) e y names ≡ walk_from ns e y names)
          → onward (λ n. walk_from (moved ns) n.uid n.directory names) x (in_option o)
          ≡ onward (λ n. walk_from ns n.uid n.directory names) x o
      by true (Some n) on = on n.uid n.directory
      by _ _ on = refl

  walked_same : (ns : List Node) (w : Walk) → walked (moved ns) w ≡ in_result (walked ns w)
  walked_same ns (LeadsTo u) = ap there_or (node_same ns u) ∙ by (node_in ns u)
    where
      by : (o : Option Node) → there_or (in_option o) ≡ in_result (there_or o)
      by None = refl
      by (Some n) = refl
  walked_same ns _ = refl

  segment_same : (ns : List Node) (path : List (List ℕ)) → segment_at (moved ns) path ≡ in_result (segment_at ns path)
  unfolding node_at
  segment_same ns path = ap (λ (w : Walk). only_segment (walked (moved ns) w)) (walk_same ns path 1 true)
      ∙ (ap only_segment (walked_same ns (walk_in ns path)) ∙ by (walked ns (walk_in ns path)))
    where
      only : (b : Bool) (n : Node) → cond b (Err reply.IsDir) (Ok (placed volume n))
          ≡ in_result (cond b (Err reply.IsDir) (Ok n))
      only true n = refl
      only false n = refl

      by : (x : Result Node Reply) → only_segment (in_result x) ≡ in_result (only_segment x)
      by (Ok n) = only n.directory n
      by (Err r) = refl

  -- ---- wants

  in_same : (ns : List Node) (who : Who) (r : Reference) (o : Option Node) → want_in (moved ns) who r (in_option o)
      ≡ want_in ns who r o
  in_same ns who r None = refl
  in_same ns who r (Some n) = cc (chain_same ns n.uid)
    where
      of : List ℕ → Want
      of chain = cond (not (permits (access_of who n.rows) r.kind)) Other (cond (nat_le (1024 * n.pages) r.offset) Other
          (Refer chain n.uid (r.offset / 1024) (not (new_word 0 r.kind == 0))))

  known_same : (ns : List Node) (who : Who) (r : Reference) (o : Option ℕ) → want_known (moved ns) who r o
      ≡ want_known ns who r o
  known_same ns who r None = refl
  known_same ns who r (Some uid) = cc (node_same ns uid, in_same ns who r (node_in ns uid))

  truncated_same : (ns : List Node) (words : ℕ) (x : Result Node Reply)
      → want_truncated (moved ns) words (in_result x) ≡ want_truncated ns words x
  truncated_same ns words (Err r) = refl
  truncated_same ns words (Ok n) = cc (chain_same ns n.uid)

  lengthened_same : (x : Result Node Reply) → want_lengthened (in_result x) ≡ want_lengthened x
  lengthened_same (Err r) = refl
  lengthened_same (Ok n) = refl

  command_same : (ns : List Node) (c : Command) → want_of_command (moved ns) c ≡ want_of_command ns c
  command_same ns (command.Truncate path words) = cc (
    segment_same ns path,
    truncated_same ns words (segment_at ns path),
  )
  command_same ns (command.Length path pages) = cc (segment_same ns path, lengthened_same (segment_at ns path))
  command_same ns _ = refl

  abbrev around_moved : Around → Around
  around_moved a = record a { nodes = moved a.nodes }

  want_same : (a : Around) (k : ℕ) (x : Option Command) → want_of (around_moved a) k x ≡ want_of a k x
  want_same a k None = refl
  want_same a k (Some c) = by (reference_of c)
    where
      by : (r : Option Reference) → want_by (around_moved a) k c r ≡ want_by a k c r
      by None = command_same a.nodes c
      by (Some r) = known_same a.nodes (who_at a.whos k) r (uid_of (kst_at a.links.known k) r.number)

  -- what a processor's outline reads stands
  pub runner_same : (a : Around) (p : Processor) → runner_of (around_moved a) p ≡ runner_of a p
  runner_same a p = by p.cpu.process
    where
      by : (k : Option ℕ) → runner_by (around_moved a) p k ≡ runner_by a p k
      by None = refl
      by (Some k) = λ i. record (runner_by a p (Some k)) { want = want_same a k (a.next k) i }

-- ---- it begins

pub begin_outlined : (s : State) {o : Owner} (uid volume : ℕ) → s.owner ≡ Some o → o.phase ≡ phase.Looking
    → JobStep (outline_of s) o.cpu (outline_of (move_begun s o.cpu uid volume))
unfolding outline_of
begin_outlined s {o} uid volume owner looks = rw (← is) (begins_move 256 (in_look s owner looks) (le_refl 256))
  where
    is : at_stage (outline_of s) o.cpu (Copying 256) ≡ outline_of (move_begun s o.cpu uid volume)
    is = refl

-- ---- a page is copied

-- the next page that is on its record alone is none of those before
pub first_past : (table : List Ptw) (count n p : ℕ) → first_out table count n ≡ Some p → (n ≤ p) × (p < n + count)
unfolding first_out
first_past table zero n p h = cc
first_past table (suc count) n p h = by (is_out (ptw_at table n)) (first_past table count (n + 1) p) h
  where
    by : (b : Bool) → (first_out table count (n + 1) ≡ Some p → (n + 1 ≤ p) × (p < n + 1 + count))
        → cond b (Some n) (first_out table count (n + 1)) ≡ Some p → (n ≤ p) × (p < n + suc count)
    by true rest e = let same : n ≡ p = cc in (omega arith, omega arith)
    by false rest e = let past = rest e in let from = past.0 in let to = past.1 in (omega arith, omega arith)

pub copy_outlined : (s : State) {o : Owner} (m : Mover) {p : ℕ} (n : ℕ) → s.owner ≡ Some o → o.phase ≡ phase.Moving m
    → next_out (table_of s.store.ast m.uid) m.next ≡ Some p
    → JobStep (outline_of s) o.cpu (outline_of (page_copied (with_faults s n) o.cpu m p))
unfolding outline_of
copy_outlined s {o} m {p} n owner moves next = rw (← is) (copies (256 - m.next) (256 - (p + 1)) (in_stage s owner moves)
    (omega (arith, first_past (table_of s.store.ast m.uid) (256 - m.next) m.next p next)))
  where
    is : at_stage (outline_of s) o.cpu (Copying (256 - (p + 1))) ≡ outline_of (page_copied (with_faults s n) o.cpu m p)
    is = refl

-- ---- a copy failed

pub copy_failed_outlined : {s : State} {o : Owner} (m : Mover) {k : ℕ} (n : ℕ) {command : Command} → s.owner ≡ Some o
    → o.phase ≡ phase.Moving m → dues (outline_of s).runners ≡ 0 → CanTell s o.cpu k command
    → JobStep (outline_of s) o.cpu (outline_of (copy_failed s o.cpu n))
copy_failed_outlined {s} {o} m {k} n {command} owner moves due can =
    answers (Copying (256 - m.next)) (outline_of (copy_failed s o.cpu n))
    (in_stage s owner moves) due
    (ends_job s (fault_told (with_store s (without_move s.store)) (Some (process_at s o.cpu)) n)
    (copy_failed s o.cpu n) o.cpu k None reply.Device command (assumption) (assumption) refl refl refl (λ h. refl))

-- ---- the segment has another home

-- that a page differs from its record, the outline doesn't tell
bare_modified : (uid : ℕ) (fs : List Frame) → map bare (map (modified_of uid) fs) ≡ map bare fs
bare_modified uid [] = refl
bare_modified uid (f ∷ fs) = λ i. one f i ∷ bare_modified uid fs i
  where
    one : (g : Frame) → bare (modified_of uid g) ≡ bare g
    one frame.Free = refl
    one (frame.Started u p) = refl
    one (frame.Bound u p used modified) = refl

moved_outline : (s : State) (c : ℕ) (m : Mover) → with_stored (at_stage (outline_of s) c Look)
    (is_filed (with_moved s.store m).accounts (with_moved s.store m).pages.vtocs) (full_there s.store m)
    ≡ outline_of (move_committed s c m)
unfolding outline_of
moved_outline s c m = λ i. record {
  runners = map (λ p. same p i) s.processors;
  frames = sym (bare_modified m.uid s.store.pages.core.frames) i;
  entries = s.store.ast.entries;
  stored = is_filed (with_moved s.store m).accounts (with_moved s.store m).pages.vtocs;
  full = full_there s.store m;
  owner = Some (record { cpu = c; stage = Look });
  ready = length s.ready;
  left = (outline_of s).left;
}
  where
    same : (p : Processor) → runner_of (around s) p ≡ runner_of (around (move_committed s c m)) p
    same p = cc (runner_same (put_on m.uid m.to.0) (around s) p, put_is m.uid m.to.0 s.store.accounts.nodes)

pub move_outlined : (s : State) {o : Owner} (m : Mover) → s.owner ≡ Some o → o.phase ≡ phase.Moving m
    → HasMoved (outline_of s) o.cpu (full_there s.store m)
    → JobStep (outline_of s) o.cpu (outline_of (move_committed s o.cpu m))
move_outlined s {o} m owner moves has =
    rw (← (moved_outline s o.cpu m)) (commits_move (256 - m.next) _ (full_there s.store m)
    (in_stage s owner moves) has)
