-- A machine that keeps its promise finds what its actions ask of its outline.
use Rattle.machine_model.proofs.StepBasics.{◌≡◌, ◌≢◌, ◌<◌, ℕ, length, suc, List, [], Some, sym, ap, subst, ◌∙◌, arith, What, Mover, Phase, FitsPhase, IsShaped, IsEntitledToAll, HasMoved, IsFitting, Foresees, IsLook, full_there, IsMovedFor, MovesForNext, MovesIn, tables_of, outline_of, IsMachine, IsReading, cpu_at, next_command, process_at, processor_at, Owner, State, IsAtWork, IsWorking, some_unwrapped, Aim as aim, Phase as phase, look_of, ◌+◌, ◌-◌, Bool, true, false, not, ◌&&◌, eqb, Option, get_or, is_some, inl, inr, refl, ◌⊎◌, ◌/◌, count_by, nat_lt, ne_eqb, Decides-ltb, eqb_tells, get_or-set_other, get_or-set_same, Command, Node, volume_in, chain_of, count_of, size, map_at, begun, flags_taken, has_taken, pair_of, volumes_of, home_of, Keeps, LacksRecord, MovesFor, with_moved, is_active, within_from, counts_taken as taken, cond, ◌||◌, None, nat_le, ◌*◌, new_word, permits, reference_of, Reference, frame_of, seg_of, HeldSeg, Ptw, Sdw, sdws_at, word_of, Move, Transfer, by_descriptor, by_held, by_page, by_seg, by_word, word_reply, names, MayAnswer, MayEnter, MayLose, seen, page_fits, want_lack, Want, Refer, Other, Runner, runner_at, want_at, around, runner_by, want_of_reference, descriptor_of, frames_of_owner, is_connected, or_zero, MayFailBy, Ptw as ptw, Sdw as sdw, Move as move, Reply as reply, Action, by_move, come_to, move_of, refer_or_take, Action as act, and-false, kept_seen, leaves_may, not_here, stored_outlined, speaks, Speaks, fails_more, at_outline, seen_reading, bound_here, put_is, put_there, held_active, known}
use Rattle.machine_model.proofs.LookSeen.{has_answer, looks_empty, off_quiet, look_seen}
use Rattle.machine_model.proofs.WantLaws.{inside, refer_wants, want_here, IsReferring, is_refer, linked_here, refers, tree_wants}
use Rattle.machine_model.proofs.StepAsks.{ReadsFor, reads_for}
use Rattle.machine_model.proofs.StepGoes.{may_answer}

-- ---- A processor that takes the supervisor needs it: its command is no reference, or the tables lack something for
-- it.

is_take : Action → Bool
is_take act.TakeSupervisor = true
is_take _ = false

is_fault : Move → Bool
is_fault move.Fault = true
is_fault _ = false

-- a move by which the supervisor is taken is a fault
take_faults : (o : Option Owner) (r : Reference) (x : Move) → by_move o r x ≡ act.TakeSupervisor → x ≡ move.Fault
unfolding is_take
take_faults o r move.Fault h = refl
take_faults o r _ h = cc

module _ (s : State) (c : ℕ) (m : IsMachine s) (entitled : IsEntitledToAll s) (none : s.owner ≡ None)
    (rest : (cpu_at s.processors c).transfer ≡ None) (cmd : Command) (sp : Speaks s c (process_at s c) cmd)
    (r : Reference) (is : reference_of cmd ≡ Some r) where
  abbrev k : ℕ
  k = process_at s c

  abbrev keeps : Keeps s
  keeps = m.keeps

  -- no page of a word that faults fits
  word_lacks : (u p : ℕ) {makes : Bool} (w : Ptw) → is_active s.store.ast u ≡ true → word_of s.store.ast u p ≡ w
      → not (eqb (new_word 0 r.kind) 0) ≡ makes → by_word w r.kind ≡ move.Fault
      → page_fits (outline_of s) None u p makes ≡ false
  unfolding is_fault
  word_lacks u p {makes} ptw.Null active e same h = ap (λ (b : Bool). b || (false || (not ((outline_of s).stored u p)
      && not makes))) (not_here s keeps u p (ap names e))
      ∙ (ap (λ (b : Bool). not ((outline_of s).stored u p) && not b) (sym same) ∙ by (eqb (new_word 0 r.kind) 0) h)
    where
      by : (b : Bool) → cond b (move.Plain (word_reply 0 r.kind)) move.Fault ≡ move.Fault
          → (not ((outline_of s).stored u p) && not (not b)) ≡ false
      by true i = cc
      by false i = and-false (not ((outline_of s).stored u p))
  word_lacks u p (ptw.Out n) active e same h = cc (
    not_here s keeps u p (ap names e),
    stored_outlined s keeps u p active,
  )
  word_lacks u p (ptw.Here f) active e same h = cc
  word_lacks u p (ptw.Leaving f) active e same h = cc (ap is_leaving (sym e ∙ bound_here (seen s) f u p keeps.book
      (ap frames_of_owner none) (keeps.book.tied.back f u p (ap names e))))
    where
      is_leaving : Ptw → Bool
      is_leaving (ptw.Leaving g) = true
      is_leaving _ = false

  module _ (chain : List ℕ) (u p : ℕ) (makes : Bool)
      (to : IsReferring s.store.accounts.nodes s.store.links.known k r chain u p makes) where
    held_same : (e : HeldSeg) → seg_of (cpu_at s.processors c).assoc r.number ≡ Some e → e.uid ≡ u
    held_same e h = let one : Some e.uid ≡ Some u = sym (known s c keeps entitled cmd sp r is e h) ∙ (cc) in cc

    held_lacks : (e : HeldSeg) → seg_of (cpu_at s.processors c).assoc r.number ≡ Some e
        → by_held (cpu_at s.processors c).assoc (word_of s.store.ast) r e ≡ move.Fault
        → page_fits (outline_of s) None u p makes ≡ false
    unfolding is_fault
    held_lacks e h i = by (not (permits e.mode r.kind)) (nat_le (1024 * e.pages) r.offset)
        (frame_of (cpu_at s.processors c).assoc e.uid (r.offset / 1024)) i
      where
        by : (a b : Bool) (o : Option ℕ) → cond a (move.Plain reply.NoAccess) (cond b (move.Plain reply.Length)
            (by_page o (word_of s.store.ast e.uid (r.offset / 1024)) r.kind)) ≡ move.Fault
            → page_fits (outline_of s) None u p makes ≡ false
        by false false None j = (λ n. page_fits (outline_of s) None (sym (held_same e h) n) (sym to.page_is n) makes)
            ∙ word_lacks e.uid (r.offset / 1024) (word_of s.store.ast e.uid (r.offset / 1024))
            (held_active s c keeps entitled cmd sp r is e h) refl to.makes_is j
        by _ _ _ j = cc

    -- a fault where all is there that the reference wants
    lacking : move_of s (cpu_at s.processors c) k r ≡ move.Fault
        → (is_connected (descriptor_of s.store.links k r.number) && page_fits (outline_of s) None u p makes) ≡ false
    unfolding is_fault
    lacking h = by (seg_of (cpu_at s.processors c).assoc r.number) refl h
      where
        seg : (w : Sdw) → descriptor_of s.store.links k r.number ≡ w → is_fault (by_descriptor w) ≡ true
            → (is_connected (descriptor_of s.store.links k r.number) && page_fits (outline_of s) None u p makes) ≡ false
        seg sdw.Fault e i = cc
        seg (sdw.Present aste mode pages) e i = cc

        by : (o : Option HeldSeg) → seg_of (cpu_at s.processors c).assoc r.number ≡ o
            → by_seg (cpu_at s.processors c).assoc (sdws_at s.store.links.descriptors k) (word_of s.store.ast) r o
            ≡ move.Fault
            → (is_connected (descriptor_of s.store.links k r.number) && page_fits (outline_of s) None u p makes) ≡ false
        by None e i = seg (descriptor_of s.store.links k r.number) refl (ap is_fault i)
        by (Some x) e i = cc (held_lacks x e i, and-false (is_connected (descriptor_of s.store.links k r.number)))

  -- ---- a reference that faults

  want_is : want_at (outline_of s) c ≡ want_of_reference (around s) k r
  want_is = cc (want_here s c sp.its)

  linked_is : (runner_at (outline_of s).runners c).linked ≡ is_connected (descriptor_of s.store.links k r.number)
  linked_is = cc (linked_here s c sp.its)

  reading_none : (runner_at (outline_of s).runners c).reading ≡ None
  reading_none = cc (at_outline s c, seen_reading (around s) (processor_at s.processors c))

  reference_enters : move_of s (cpu_at s.processors c) k r ≡ move.Fault → MayEnter s c
  unfolding is_refer
  reference_enters h = by (want_of_reference (around s) k r) refl
    where
      by : (w : Want) → want_of_reference (around s) k r ≡ w → MayEnter s c
      by (Refer chain u p makes) e = inl (
        record { chain = chain; uid = u; page = p; makes = makes; want = want_is ∙ e },
        (λ i. want_lack (outline_of s) ((want_is ∙ e) i) (linked_is i) (reading_none i))
            ∙ ap (λ (b : Bool). cond {A = ℕ} b 0 1) (lacking chain u p makes (refers s k r chain u p makes e) h),
      )
      by _ e = inr (λ xs v q b i. (let off = ap is_refer (sym (want_is ∙ e) ∙ i) in cc))

module _ {s : State} (c : ℕ) (m : IsMachine s) (entitled : IsEntitledToAll s) (there : c < length s.processors) where
  -- a processor without a process wants nothing
  nothing_wanted : (cpu_at s.processors c).process ≡ None → want_at (outline_of s) c ≡ Other
  nothing_wanted none = ap (λ (x : Runner). x.want) (at_outline s c)
      ∙ ap (λ (o : Option ℕ). (runner_by (around s) (processor_at s.processors c) o).want) none

  pub may_enter : s.owner ≡ None → (cpu_at s.processors c).transfer ≡ None
      → come_to s (cpu_at s.processors c) (process_at s c) (next_command s (process_at s c)) ≡ act.TakeSupervisor
      → MayEnter s c
  unfolding is_refer
  may_enter none rest takes = by (cpu_at s.processors c).process refl
    where
      command_enters : (cmd : Command) → Speaks s c (process_at s c) cmd → (x : Option Reference) → reference_of cmd ≡ x
          → refer_or_take s (cpu_at s.processors c) (process_at s c) x ≡ act.TakeSupervisor → MayEnter s c
      command_enters cmd sp None is h = inr (λ xs v q b i. tree_wants s.store.accounts.nodes cmd xs v q b
          (cc (want_here s c sp.its)))
      command_enters cmd sp (Some r) is h = reference_enters s c m entitled none rest cmd sp r is
          (take_faults s.owner r (move_of s (cpu_at s.processors c) (process_at s c) r) h)

      its : (k : ℕ) → (cpu_at s.processors c).process ≡ Some k → (cpu_at s.processors c).process ≡ Some (process_at s c)
      its k e = cc

      by : (x : Option ℕ) → (cpu_at s.processors c).process ≡ x → MayEnter s c
      by None e = inr (λ xs v q b i. (let off = ap is_refer (sym (nothing_wanted e) ∙ i) in cc))
      by (Some k) e = let one = speaks s c (process_at s c) m there (its k e) in
          command_enters one.0 one.1 (reference_of one.0) refl (cc)

  -- a transfer that fails is for a command that isn't the end of its process
  pub may_lose : IsReading s → is_some (cpu_at s.processors c).transfer ≡ true → MayLose s c
  may_lose reading h = by (cpu_at s.processors c).transfer refl h
    where
      by : (x : Option Transfer) → (cpu_at s.processors c).transfer ≡ x → is_some x ≡ true → MayLose s c
      by None e i = cc
      by (Some t) e i = record {
        process = may.process;
        command = may.command;
        can = may.can;
        placed = record {
          here = may.can.process;
          only = λ d other is. other (m.scheduled.alone d c may.process is may.can.process);
        };
        more = fails_more s may.process m.keeps.faithful may.command
            (subst (MayFailBy s.store may.process) may.can.on.next (rw (← (ap or_zero may.can.process)) reads.may));
      }
        where
          reads : ReadsFor s c
          reads = reads_for s c t m.keeps reading e

          may : MayAnswer s c
          may = may_answer s c (process_at s c) m there reads.its

-- ---- A segment that has moved gives its command the record that it lacks: on the volume where it lies one is free.

-- a volume that has room for a segment is another than its own, and has records free for more than its stored pages
record IsRoomy (own volume pages used records : ℕ) : Type 0 where
  pub other : own ≢ volume
  pub room : pages + used < records

roomy : (own volume pages used records : ℕ) (rest : Bool)
    → (not (eqb volume own) && (nat_lt pages (records - used) && rest)) ≡ true → IsRoomy own volume pages used records
roomy own volume pages used records rest h = record {
  other = λ same. other (eqb_tells volume own) (sym same) h;
  room = more (nat_lt pages (records - used)) refl (rest_of (not (eqb volume own)) _ h);
}
  where
    other : ((eqb volume own ≡ true) × (volume ≡ own)) ⊎ ((eqb volume own ≡ false) × (volume ≢ own)) → volume ≡ own
        → (not (eqb volume own) && (nat_lt pages (records - used) && rest)) ≡ true → ⊥
    other (inl e) same is = let no : false ≡ true = rw e.0 at is in cc
    other (inr n) same is = n.1 same

    rest_of : (a b : Bool) → (a && b) ≡ true → b ≡ true
    rest_of true b is = is
    rest_of false b is = cc

    more : (b : Bool) → nat_lt pages (records - used) ≡ b → (b && rest) ≡ true → pages + used < records
    more true e is = omega (arith, (Decides-ltb pages (records - used)).0 e)
    more false e is = cc

-- where records for more are free, one is still after these have taken theirs
has_one : (flags : List Bool) (places : List (Option ℕ))
    → count_by is_some places + count_by (λ flag. flag) flags < length flags
    → eqb (count_by (λ flag. flag) (flags_taken flags places)) (length (flags_taken flags places)) ≡ false
has_one flags places room = let took = has_taken flags places (omega arith) in let count = took.count in
    let size = took.adds.size in
    ne_eqb _ _ (omega arith)

module _ (s : State) (keeps : Keeps s) (k : ℕ) (m : Mover) (cmd : Command)
    (active : is_active s.store.ast m.uid ≡ true) (moves : MovesFor (tables_of s.store) k m cmd) where
  abbrev nodes : List Node
  nodes = s.store.accounts.nodes

  abbrev lacks : LacksRecord (tables_of s.store) k m.uid moves.reference
  lacks = moves.lacks

  from : m.from ≡ pair_of (home_of s.store.accounts m.uid)
  from = cc

  room : IsRoomy (volume_in nodes m.uid) m.to.0 (count_of s.store.accounts m.uid)
      (taken s.store.pages.records m.to.0) (size s.store.pages.records m.to.0)
  room = roomy _ _ _ _ _ _ moves.first.room

  -- ---- the records there

  abbrev places : List (Option ℕ)
  places = map_at (volumes_of s.store.pages) m.from

  named : count_by is_some places ≡ count_of s.store.accounts m.uid
  named = cc (from, keeps.store.counted.counted.counts m.uid (cc))

  abbrev flags : List Bool
  flags = get_or s.store.pages.records m.to.0 []

  there : m.to.0 < length s.store.pages.records
  there = within_from s.store.pages.records m.to.0 [] (λ none. (omega (arith, (ap length none), room.room)))

  flags_then : get_or (with_moved s.store m).pages.records m.to.0 [] ≡ flags_taken flags places
  flags_then = get_or-set_other (begun (volumes_of s.store.pages) m.uid m.from m.to.0).records m.from.0 m.to.0 _ []
      (λ same. room.other (cc (same, from)))
      ∙ get_or-set_same s.store.pages.records m.to.0 (flags_taken flags places) [] there

  has : full_there s.store m m.uid ≡ false
  has = cc (
    put_is m.uid m.to.0 nodes,
    put_there m.uid m.to.0 nodes lacks.node lacks.there,
    flags_then,
    has_one flags places (omega (arith, room.room, named)),
  )

  -- ---- the command

  full_seen : (outline_of s).full m.uid ≡ true
  unfolding outline_of
  full_seen = lacks.full

  pub moved_seen : (c : ℕ) → (cpu_at s.processors c).process ≡ Some k → next_command s k ≡ Some cmd
      → HasMoved (outline_of s) c (full_there s.store m)
  moved_seen c its next = record {
    chain = chain_of nodes m.uid;
    uid = m.uid;
    page = moves.reference.offset / 1024;
    want = cc (
      want_here s c its,
      refer_wants s k keeps moves.reference m.uid (inside s keeps k m.uid moves.reference active lacks),
    );
    lacked = full_seen;
    has = has;
  }

module _ (s : State) (c : ℕ) (m : IsMachine s) (entitled : IsEntitledToAll s) (reading : IsReading s)
    (working : IsWorking s) (fitting : IsFitting s) (there : c < length s.processors) where
  -- an eviction has its frame
  evicts : (o : Owner) (w : What) → s.owner ≡ Some o → o.phase ≡ phase.Waiting aim.Evicting w → o.frames ≢ []
  evicts o w mine waits none = let shape : FitsPhase (phase.Waiting aim.Evicting w) o.frames o.cut =
      (rw waits at (subst IsShaped mine m.keeps.book.going_owned.shaped)) in
      let no_one : suc 0 ≡ 0 = sym (cc) ∙ ap (λ (xs : List ℕ). length xs) none in
      omega arith

  looks : (o : Owner) → s.owner ≡ Some o → o.phase ≡ phase.Looking → o.cpu ≡ c
      → IsLook s c (look_of s (process_at s c) (next_command s (process_at s c)))
  looks o mine is same = let one = speaks s c (process_at s c) m there (some_unwrapped (cpu_at s.processors c).process
      (subst (λ (d : ℕ). IsAtWork (processor_at s.processors d)) same (m.keeps.at_work o mine)).busy) in
      look_seen s c m one.0 one.1 o mine is same

  -- a segment that moves does so for the command of the owner's process
  moves : (o : Owner) (x : Mover) → s.owner ≡ Some o → o.phase ≡ phase.Moving x → o.cpu ≡ c
      → HasMoved (outline_of s) c (full_there s.store x)
  moves o x mine is same = let one = speaks s c (process_at s c) m there (some_unwrapped (cpu_at s.processors c).process
      (subst (λ (d : ℕ). IsAtWork (processor_at s.processors d)) same (m.keeps.at_work o mine)).busy) in
      moved_seen s m.keeps (process_at s c) x one.0 rests.active
      (subst (MovesForNext (tables_of s.store) (process_at s c) x) one.1.next rests.moves) c one.1.its one.1.next
    where
      rests : IsMovedFor s.store (process_at s c) x (next_command s (process_at s c))
      rests = rw same at (subst (λ (ph : Phase). MovesIn ph s.store (process_at s o.cpu)
          (next_command s (process_at s o.cpu))) is (working.moves o mine))

  pub foresees : Foresees s c
  foresees = record {
    kept = kept_seen m reading fitting;
    quiet = off_quiet m.keeps;
    answers = has_answer c m there;
    loses = may_lose c m entitled there reading;
    looking = looks_empty m.keeps;
    evicts = evicts;
    looks = looks;
    leaves = leaves_may m.keeps;
    moves = moves;
    enters = may_enter c m entitled there;
  }
