-- What a look of the owner finds for the command of its process, when it comes to each of its actions.
use Rattle.machine_model.proofs.Basics.{cond_both, cases_Bool, ◌≡◌, ◌≢◌, ◌<◌, ℕ, ◌*◌, Bool, true, false, cond, eqb, is_some, List, [], position, Option, Some, None, ◌⊎◌, inl, inr, refl, sym, ap, ◌∙◌, ◌%◌, ◌/◌, Mode, who_of, reference_of, Command, Reference, Reply, access_of, Node, node_in, chain_of, Frame, Core, frame_at, is_started, least_free_frame, started_page, clock_choice, Ptw, Sdw, frame_in, uid_at, victim_of, word_of, reply_by, reply_to_command, new_word, permits, reply_to_reference, known_uid, is_refusal, activate_first, activate_in, any_page, bring_cut, create_unless, descriptors_taken, empty_victim, empty_when_read, evict_or_wait, first_taken, frame_read_from, frames_taken, into_frame, look_at_descriptor, look_at_word, look_for, look_for_reference, look_inside, look_of, look_to_change, look_to_take, look_unless, pool_of_node, take_or_commit, unless_read, what_taken, with_chain, with_cut_page, look_to_create, move_or, is_out, descriptor_of, first_inactive, flat_of, frame_reading, free_place, is_active, is_page_of, or_zero, is_of_room, is_outside, only, outside_refusal, refusal_of, room_refusal, uid_of_command, uid_of_number, move_to, State, reply_to_tree_command, ◌∷◌, subst, nat_le, Command as command, Reply as reply, Frame as frame, Ptw as ptw, Sdw as sdw, actions_room_for as room_for, same_Some, Action, ForTransfer, Action as act}
use Rattle.machine_model.proofs.FindLaws.{position_at}

-- ---- what is found

-- what the flat store answers refuses the command
pub record IsRefused (s : State) (k : ℕ) (cmd : Command) (r : Reply) : Type 0 where
  pub reply : r ≡ reply_to_command s.plan (flat_of s) k cmd
  pub refuses : is_refusal r ≡ true

-- a reference that isn't refused before its page is looked at
pub record IsInside (s : State) (k : ℕ) (r : Reference) (u : ℕ) : Type 0 where
  pub known : known_uid (flat_of s) k r.number ≡ Some u
  pub node : Node
  pub there : node_in (flat_of s).nodes u ≡ Some node
  pub permitted : permits (access_of (who_of s.plan k) node.rows) r.kind ≡ true
  pub within : r.offset < 1024 * node.pages

-- the chain of what the command is about
pub record IsAbout (s : State) (k : ℕ) (cmd : Command) (u : ℕ) : Type 0 where
  pub case : ((r : Reference) × (reference_of cmd ≡ Some r) × (uid_of_number s.store k r.number ≡ u)
      × (outside_refusal s k r ≡ None) × (descriptor_of s.store.links k r.number ≡ sdw.Fault))
      ⊎ ((path : List (List ℕ)) × (words : ℕ) × (cmd ≡ command.Truncate path words) × (refusal_of s k cmd ≡ None)
      × (uid_of_command s.store k cmd ≡ u))

-- the first link of the chain that isn't active
pub record IsFirstLink (s : State) (k : ℕ) (cmd : Command) (u : ℕ) (chain : List ℕ) : Type 0 where
  pub about : ℕ
  pub case : IsAbout s k cmd about
  pub chain_is : chain ≡ chain_of s.store.accounts.nodes about
  pub first : first_inactive s.store.ast chain ≡ Some u

pub record FindsPlace (s : State) (k : ℕ) (cmd : Command) (u place : ℕ) : Type 0 where
  pub chain : List ℕ
  pub link : IsFirstLink s k cmd u chain
  pub free : free_place s.store.ast (pool_of_node (node_in s.store.accounts.nodes u)) ≡ Some place

pub record FindsVictim (s : State) (k : ℕ) (cmd : Command) (pool : ℕ) (chain : List ℕ) (u : ℕ) : Type 0 where
  pub wanted : ℕ
  pub link : IsFirstLink s k cmd wanted chain
  pub pool_is : pool ≡ pool_of_node (node_in s.store.accounts.nodes wanted)
  pub full : free_place s.store.ast pool ≡ None
  pub place : ℕ
  pub victim : victim_of s.store.ast pool chain ≡ Some place
  pub uid : u ≡ or_zero (uid_at s.store.ast.entries place)
  pub unread : frame_reading s.store.pages.core u any_page ≡ None

-- the whole chain of a reference is active
pub record FindsLink (s : State) (k : ℕ) (cmd : Command) (n u : ℕ) : Type 0 where
  pub reference : Reference
  pub is : reference_of cmd ≡ Some reference
  pub number : reference.number ≡ n
  pub uid : uid_of_number s.store k n ≡ u
  pub inside : outside_refusal s k reference ≡ None
  pub fault : descriptor_of s.store.links k n ≡ sdw.Fault
  pub chain : first_inactive s.store.ast (chain_of s.store.accounts.nodes u) ≡ None

-- a reference whose descriptor leads to its segment
pub record FindsPage (s : State) (k : ℕ) (cmd : Command) (r : Reference) (u p : ℕ) : Type 0 where
  pub is : reference_of cmd ≡ Some r
  pub uid : uid_of_number s.store k r.number ≡ u
  pub inside : outside_refusal s k r ≡ None
  pub aste : ℕ
  pub mode : Mode
  pub pages : ℕ
  pub linked : descriptor_of s.store.links k r.number ≡ sdw.Present aste mode pages
  pub page : r.offset / 1024 ≡ p

-- a page may be made, and its segment stays where it is
pub record FindsRoom (s : State) (k : ℕ) (cmd : Command) (f u p : ℕ) (r : Reference) : Type 0 where
  pub finds : FindsPage s k cmd r u p
  pub null : word_of s.store.ast u p ≡ ptw.Null
  pub word : eqb (new_word 0 r.kind) 0 ≡ false
  pub room : room_refusal s k r ≡ None
  pub stays : move_to s u ≡ None
  pub frame : least_free_frame s.store.pages.core ≡ Some f
  pub unread : frame_reading s.store.pages.core u (λ q. eqb q p) ≡ None

-- a page may be made once its segment has moved
pub record FindsMove (s : State) (k : ℕ) (cmd : Command) (u volume : ℕ) : Type 0 where
  pub reference : Reference
  pub finds : FindsPage s k cmd reference u (reference.offset / 1024)
  pub null : word_of s.store.ast u (reference.offset / 1024) ≡ ptw.Null
  pub word : eqb (new_word 0 reference.kind) 0 ≡ false
  pub room : room_refusal s k reference ≡ None
  pub moves : move_to s u ≡ Some volume
  pub unread : frame_reading s.store.pages.core u any_page ≡ None

-- a `truncate` whose chain is active, and which cuts this page
pub record FindsCut (s : State) (k : ℕ) (cmd : Command) (u p : ℕ) : Type 0 where
  pub path : List (List ℕ)
  pub words : ℕ
  pub is : cmd ≡ command.Truncate path words
  pub stands : refusal_of s k cmd ≡ None
  pub uid : uid_of_command s.store k cmd ≡ u
  pub chain : first_inactive s.store.ast (chain_of s.store.accounts.nodes u) ≡ None
  pub cuts : eqb (words % 1024) 0 ≡ false
  pub page : words / 1024 ≡ p

-- the page that is wanted is on its record, and of an active segment
pub record FindsOut (s : State) (k : ℕ) (cmd : Command) (f u p : ℕ) : Type 0 where
  pub case : ((r : Reference) × FindsPage s k cmd r u p) ⊎ FindsCut s k cmd u p
  pub out : is_out (word_of s.store.ast u p) ≡ true
  pub frame : least_free_frame s.store.pages.core ≡ Some f
  pub unread : frame_reading s.store.pages.core u (λ q. eqb q p) ≡ None

-- a page is wanted for which no frame is free
pub record FindsFull (s : State) (k : ℕ) (cmd : Command) (f : ℕ) : Type 0 where
  pub uid : ℕ
  pub page : ℕ
  pub case : ((r : Reference) × FindsPage s k cmd r uid page) ⊎ FindsCut s k cmd uid page
  pub away : (g : ℕ) → word_of s.store.ast uid page ≢ ptw.Here g
  pub choice : clock_choice s.store.pages.core ≡ Some f
  pub full : least_free_frame s.store.pages.core ≡ None
  pub unread : frame_reading s.store.pages.core uid (λ q. eqb q page) ≡ None

-- a `length` of an active segment, of which no page is being read
pub record FindsActive (s : State) (k : ℕ) (cmd : Command) (u : ℕ) : Type 0 where
  pub path : List (List ℕ)
  pub pages : ℕ
  pub is : cmd ≡ command.Length path pages
  pub stands : refusal_of s k cmd ≡ None
  pub uid : uid_of_command s.store k cmd ≡ u
  pub active : is_active s.store.ast u ≡ true
  pub unread : frame_reading s.store.pages.core u any_page ≡ None

-- what a `truncate` wants before it takes: its chain, and the page that it cuts in a frame
abbrev pub IsBrought : State → ℕ → Command → Type 0
IsBrought s u (command.Truncate path words) = (first_inactive s.store.ast (chain_of s.store.accounts.nodes u) ≡ None)
    × (eqb (words % 1024) 0 ≡ false → is_out (word_of s.store.ast u (words / 1024)) ≡ false)
IsBrought s u _ = Unit {0}

-- a tree command that isn't refused takes these frames and descriptors
pub record FindsTaken (s : State) (k : ℕ) (cmd : Command) (fs : List ℕ) (pairs : List (ℕ × ℕ)) : Type 0 where
  pub tree : reference_of cmd ≡ None
  pub stands : refusal_of s k cmd ≡ None
  pub unread : frame_read_from s.store.pages.core (uid_of_command s.store k cmd) (first_taken cmd) ≡ None
  pub frames : fs ≡ frames_taken s.store (uid_of_command s.store k cmd) (first_taken cmd)
  pub descriptors : pairs ≡ descriptors_taken s.store k (uid_of_command s.store k cmd) cmd
  pub brought : IsBrought s (uid_of_command s.store k cmd) cmd
  -- a `length` comes here where its segment isn't active
  pub inactive : (path : List (List ℕ)) (pages : ℕ) → cmd ≡ command.Length path pages
      → is_active s.store.ast (uid_of_command s.store k cmd) ≡ false

-- a reference for which all is there
pub record FindsAll (s : State) (k : ℕ) (cmd : Command) : Type 0 where
  pub reference : Reference
  pub uid : ℕ
  pub finds : FindsPage s k cmd reference uid (reference.offset / 1024)
  pub out : is_out (word_of s.store.ast uid (reference.offset / 1024)) ≡ false
  pub kept : word_of s.store.ast uid (reference.offset / 1024) ≡ ptw.Null → eqb (new_word 0 reference.kind) 0 ≡ true

-- no frame is free, bound or being read into
pub record FindsNoFrame (s : State) : Type 0 where
  pub full : least_free_frame s.store.pages.core ≡ None
  pub choice : clock_choice s.store.pages.core ≡ None
  pub unread : position is_started s.store.pages.core.frames ≡ None

-- a full pool has nothing but links of the chain
pub record FindsNoVictim (s : State) (k : ℕ) (cmd : Command) : Type 0 where
  pub chain : List ℕ
  pub wanted : ℕ
  pub link : IsFirstLink s k cmd wanted chain
  pub full : free_place s.store.ast (pool_of_node (node_in s.store.accounts.nodes wanted)) ≡ None
  pub victim : victim_of s.store.ast (pool_of_node (node_in s.store.accounts.nodes wanted)) chain ≡ None

abbrev pub LookFinds : State → ℕ → Command → Action → Type 0
LookFinds s k cmd (act.Waits (ForTransfer f)) = is_some (started_page (frame_in s.store.pages f)) ≡ true
LookFinds s k cmd (act.Answer r) = IsRefused s k cmd r
LookFinds s k cmd act.GiveUp = FindsAll s k cmd ⊎ (FindsNoFrame s ⊎ FindsNoVictim s k cmd)
LookFinds s k cmd (act.Activate u place) = FindsPlace s k cmd u place
LookFinds s k cmd (act.Connect n u) = FindsLink s k cmd n u
LookFinds s k cmd (act.Create f u p r) = FindsRoom s k cmd f u p r
LookFinds s k cmd (act.Start f u p) = FindsOut s k cmd f u p
LookFinds s k cmd (act.Evict f) = FindsFull s k cmd f
LookFinds s k cmd (act.Empty u) = FindsActive s k cmd u
LookFinds s k cmd (act.EmptyVictim pool chain u) = FindsVictim s k cmd pool chain u
LookFinds s k cmd (act.TakeAway fs pairs w) = FindsTaken s k cmd fs pairs
    × (w ≡ what_taken (uid_of_command s.store k cmd) cmd) × ((fs ≢ []) ⊎ (pairs ≢ []))
LookFinds s k cmd (act.BeginMove u volume) = FindsMove s k cmd u volume
LookFinds s k cmd act.Commit = FindsTaken s k cmd [] []
LookFinds s k cmd _ = ⊥

-- ---- along the rules of a look

module _ (s : State) (k : ℕ) (cmd : Command) where
  abbrev core : Core
  core = s.store.pages.core

  -- a frame that is found by what is being read into it
  reading_found : (u : ℕ) (test : ℕ → Bool) {f : ℕ} → frame_reading core u test ≡ Some f
      → is_some (started_page (frame_in s.store.pages f)) ≡ true
  reading_found u test {f} h = by (started_page (frame_at core f))
      (position_at (λ x. is_page_of u test (started_page x)) core.frames frame.Free f h).1
    where
      by : (o : Option (ℕ × ℕ)) → is_page_of u test o ≡ true → is_some o ≡ true
      by None e = cc
      by (Some page) e = refl

  unless_finds : (u : ℕ) (test : ℕ → Bool) (a : Action) → (frame_reading core u test ≡ None → LookFinds s k cmd a)
      → LookFinds s k cmd (unless_read (frame_reading core u test) a)
  unless_finds u test a h = by (frame_reading core u test) refl
    where
      by : (x : Option ℕ) → frame_reading core u test ≡ x → LookFinds s k cmd (unless_read x a)
      by None e = h e
      by (Some f) e = reading_found u test e

  started_found : {f : ℕ} → position is_started core.frames ≡ Some f
      → is_some (started_page (frame_in s.store.pages f)) ≡ true
  started_found {f} h = by (frame_at core f) (position_at is_started core.frames frame.Free f h).1
    where
      by : (x : Frame) → is_started x ≡ true → is_some (started_page x) ≡ true
      by (frame.Started u q) e = refl
      by _ e = cc

  module _ (u p : ℕ) (case : ((r : Reference) × FindsPage s k cmd r u p) ⊎ FindsCut s k cmd u p)
      (away : (g : ℕ) → word_of s.store.ast u p ≢ ptw.Here g) where
    evict_finds : (x : Option ℕ) → clock_choice core ≡ x → least_free_frame core ≡ None
        → frame_reading core u (λ q. eqb q p) ≡ None → LookFinds s k cmd (evict_or_wait core x)
    evict_finds (Some f) e full unread =
        record { uid = u; page = p; case = case; away = away; choice = e; full = full; unread = unread }
    evict_finds None e full unread = by (position is_started core.frames) refl
      where
        by : (y : Option ℕ) → position is_started core.frames ≡ y → LookFinds s k cmd (unless_read y act.GiveUp)
        by None i = inr (inl (assumption))
        by (Some f) i = started_found i

    room_finds : (into : ℕ → Action)
        → ((f : ℕ) → least_free_frame core ≡ Some f → frame_reading core u (λ q. eqb q p) ≡ None
        → LookFinds s k cmd (into f)) → LookFinds s k cmd (room_for core u p into)
    room_finds into h = unless_finds u (λ q. eqb q p) (into_frame core (least_free_frame core) into)
        (λ unread. by (least_free_frame core) refl unread)
      where
        by : (y : Option ℕ) → least_free_frame core ≡ y → frame_reading core u (λ q. eqb q p) ≡ None
            → LookFinds s k cmd (into_frame core y into)
        by (Some f) e unread = h f e unread
        by None e unread = evict_finds (clock_choice core) refl e unread

  -- ---- a chain

  module _ (about : ℕ) (case : IsAbout s k cmd about) where
    abbrev chain : List ℕ
    chain = chain_of s.store.accounts.nodes about

    link_of : (v : ℕ) → first_inactive s.store.ast chain ≡ Some v → IsFirstLink s k cmd v chain
    link_of v e = record { about = about; case = case; chain_is = refl; first = e }

    abbrev pool : ℕ → ℕ
    pool v = pool_of_node (node_in s.store.accounts.nodes v)

    victim_finds : (v : ℕ) → first_inactive s.store.ast chain ≡ Some v → free_place s.store.ast (pool v) ≡ None
        → (x : Option ℕ) → victim_of s.store.ast (pool v) chain ≡ x
        → LookFinds s k cmd (empty_victim s.store (pool v) chain x)
    victim_finds v e full None i = inr (inr (record {
      chain = chain;
      wanted = v;
      link = link_of v e;
      full = full;
      victim = i;
    }))
    victim_finds v e full (Some place) i = unless_finds (or_zero (uid_at s.store.ast.entries place)) any_page
        (act.EmptyVictim (pool v) chain (or_zero (uid_at s.store.ast.entries place))) (λ unread. record {
          wanted = v;
          link = link_of v e;
          pool_is = refl;
          full = full;
          place = place;
          victim = i;
          uid = refl;
          unread = unread;
        })

    place_finds : (v : ℕ) → first_inactive s.store.ast chain ≡ Some v → (x : Option ℕ)
        → free_place s.store.ast (pool v) ≡ x → LookFinds s k cmd (activate_in s.store (pool v) chain v x)
    place_finds v e (Some place) i = record { chain = chain; link = link_of v e; free = i }
    place_finds v e None i = victim_finds v e i (victim_of s.store.ast (pool v) chain) refl

    chain_finds : (otherwise : Action) → (first_inactive s.store.ast chain ≡ None → LookFinds s k cmd otherwise)
        → LookFinds s k cmd (with_chain s.store about otherwise)
    chain_finds otherwise h = by (first_inactive s.store.ast chain) refl
      where
        by : (x : Option ℕ) → first_inactive s.store.ast chain ≡ x
            → LookFinds s k cmd (activate_first s.store chain x otherwise)
        by None e = h e
        by (Some v) e = place_finds v e (free_place s.store.ast (pool v)) refl

  only_some : (test : Reply → Bool) (x : Reply) {y : Reply} → only test x ≡ Some y → (x ≡ y) × (test y ≡ true)
  only_some test x {y} h = elim (cases_Bool (test x)) [
    | inl e ↦ (let same = same_Some x y (rw e at h) in (same, rw same at e))
    | inr e ↦ cc
  ]

  -- ---- a reference

  module _ (r : Reference) (is : reference_of cmd ≡ Some r) where
    abbrev uid : ℕ
    uid = uid_of_number s.store k r.number

    abbrev p : ℕ
    p = r.offset / 1024

    -- what the flat store answers it
    due : reply_to_command s.plan (flat_of s) k cmd ≡ reply_to_reference s.plan (flat_of s) k r
    due = cc

    outside_refuses : (x : Reply) → is_outside x ≡ true → is_refusal x ≡ true
    outside_refuses reply.Unknown h = refl
    outside_refuses reply.Gone h = refl
    outside_refuses reply.NoAccess h = refl
    outside_refuses reply.Length h = refl
    outside_refuses _ h = cc

    room_refuses : (x : Reply) → is_of_room x ≡ true → is_refusal x ≡ true
    room_refuses reply.Quota h = refl
    room_refuses reply.NoRecord h = refl
    room_refuses _ h = cc

    refused_outside : (x : Reply) → outside_refusal s k r ≡ Some x → IsRefused s k cmd x
    unfolding outside_refusal
    refused_outside x h = let both = only_some is_outside (reply_to_reference s.plan (flat_of s) k r) h in
        assumption (sym both.0 ∙ sym due, outside_refuses x both.1)

    refused_room : (x : Reply) → room_refusal s k r ≡ Some x → IsRefused s k cmd x
    unfolding room_refusal
    refused_room x h = let both = only_some is_of_room (reply_to_reference s.plan (flat_of s) k r) h in
        assumption (sym both.0 ∙ sym due, room_refuses x both.1)

    module _ (inside : outside_refusal s k r ≡ None) where
      module _ (aste pages : ℕ) (m : Mode) (linked : descriptor_of s.store.links k r.number
          ≡ sdw.Present aste m pages) where
        page_of : FindsPage s k cmd r uid p
        page_of = record {
          is = is;
          uid = refl;
          inside = inside;
          aste = aste;
          mode = m;
          pages = pages;
          linked = linked;
          page = refl;
        }

        all_of : (w : Ptw) → word_of s.store.ast uid p ≡ w → is_out w ≡ false
            → (w ≡ ptw.Null → eqb (new_word 0 r.kind) 0 ≡ true) → LookFinds s k cmd act.GiveUp
        all_of w e out kept = inl (record {
          reference = r;
          uid = uid;
          finds = page_of;
          out = cc;
          kept = λ h. kept (sym e ∙ h);
        })

        word_finds : (w : Ptw) → word_of s.store.ast uid p ≡ w → LookFinds s k cmd (look_at_word s k r uid p w)
        word_finds ptw.Null e = cond_both (eqb (new_word 0 r.kind) 0) act.GiveUp (look_to_create s k r uid p)
            (LookFinds s k cmd) (λ h. all_of ptw.Null e refl (λ i. h)) (create (room_refusal s k r) refl)
          where
            moves : (x : Option ℕ) → move_to s uid ≡ x → room_refusal s k r ≡ None → eqb (new_word 0 r.kind) 0 ≡ false
                → LookFinds s k cmd (move_or core uid x (room_for core uid p (λ f. act.Create f uid p r)))
            moves (Some volume) m h word = unless_finds uid any_page (act.BeginMove uid volume) (λ unread. record {
              reference = r;
              finds = page_of;
              null = e;
              word = word;
              room = h;
              moves = m;
              unread = unread;
            })
            moves None m h word = room_finds uid p (inl (r, page_of))
                (λ g here. (let no : ptw.Null ≡ ptw.Here g = sym e ∙ here in cc)) (λ f. act.Create f uid p r)
                (λ f free unread. (assumption page_of))

            create : (x : Option Reply) → room_refusal s k r ≡ x → eqb (new_word 0 r.kind) 0 ≡ false
                → LookFinds s k cmd (create_unless x
                (move_or core uid (move_to s uid) (room_for core uid p (λ f. act.Create f uid p r))))
            create (Some x) h word = refused_room x h
            create None h word = moves (move_to s uid) refl h word
        word_finds (ptw.Out n) e = room_finds uid p (inl (r, page_of))
            (λ g here. (let no : ptw.Out n ≡ ptw.Here g = sym e ∙ here in cc)) (λ f. act.Start f uid p)
            (λ f free unread. record { case = inl (r, page_of); out = ap is_out e; frame = free; unread = unread })
        word_finds (ptw.Here f) e = all_of (ptw.Here f) e refl (λ i. (let no : ptw.Here f ≡ ptw.Null = i in absurd cc))
        word_finds (ptw.Leaving f) e =
            all_of (ptw.Leaving f) e refl (λ i. (let no : ptw.Leaving f ≡ ptw.Null = i in absurd cc))

      descriptor_finds : (x : Sdw) → descriptor_of s.store.links k r.number ≡ x
          → LookFinds s k cmd (look_at_descriptor s k r uid x)
      descriptor_finds sdw.Fault e = chain_finds uid
          (record { case = inl (r, is, refl, inside, e) }) (act.Connect r.number uid) (λ active. record {
            reference = r;
            is = is;
            number = refl;
            uid = refl;
            inside = inside;
            fault = e;
            chain = active;
          })
      descriptor_finds (sdw.Present aste m pages) e = word_finds aste pages m e (word_of s.store.ast uid p) refl

    reference_finds : LookFinds s k cmd (look_for_reference s k r)
    reference_finds = by (outside_refusal s k r) refl
      where
        by : (x : Option Reply) → outside_refusal s k r ≡ x → LookFinds s k cmd (look_inside s k r x)
        by (Some x) e = refused_outside x e
        by None e = descriptor_finds e (descriptor_of s.store.links k r.number) refl

  -- ---- a tree command

  module _ (tree : reference_of cmd ≡ None) where
    abbrev about_uid : ℕ
    about_uid = uid_of_command s.store k cmd

    refused_command : (x : Reply) → refusal_of s k cmd ≡ Some x → IsRefused s k cmd x
    unfolding refusal_of
    refused_command x h = let both = only_some is_refusal (reply_to_tree_command s.plan (flat_of s) k cmd) h in
        assumption (sym both.0 ∙ sym (ap (reply_by s.plan (flat_of s) k cmd) tree))

    module _ (stands : refusal_of s k cmd ≡ None) where
      taken_facts : (fs : List ℕ) (pairs : List (ℕ × ℕ)) → frames_taken s.store about_uid (first_taken cmd) ≡ fs
          → descriptors_taken s.store k about_uid cmd ≡ pairs
          → frame_read_from core about_uid (first_taken cmd) ≡ None → IsBrought s about_uid cmd
          → ((path : List (List ℕ)) (pages : ℕ) → cmd ≡ command.Length path pages
          → is_active s.store.ast about_uid ≡ false) → FindsTaken s k cmd fs pairs
      taken_facts fs pairs a b unread brought inactive = assumption (sym a, sym b)

      commit_finds : (fs : List ℕ) (pairs : List (ℕ × ℕ)) → FindsTaken s k cmd fs pairs
          → LookFinds s k cmd (take_or_commit fs pairs (what_taken about_uid cmd))
      commit_finds [] [] h = h
      commit_finds [] (x ∷ xs) h = (h, refl, inr (λ e. (let no : x ∷ xs ≡ [] = e in cc)))
      commit_finds (f ∷ fs) pairs h = (h, refl, inl (λ e. (let no : f ∷ fs ≡ [] = e in cc)))

      take_finds : IsBrought s about_uid cmd → ((path : List (List ℕ)) (pages : ℕ) → cmd ≡ command.Length path pages
          → is_active s.store.ast about_uid ≡ false) → LookFinds s k cmd (look_to_take s.store k about_uid cmd)
      take_finds brought inactive = read (frame_read_from core about_uid (first_taken cmd)) refl
        where
          found : (z : Option ℕ) (f : ℕ) → frame_read_from core about_uid z ≡ Some f
              → is_some (started_page (frame_in s.store.pages f)) ≡ true
          found None f h = cc
          found (Some low) f h = reading_found about_uid (λ q. nat_le low q) h

          read : (x : Option ℕ) → frame_read_from core about_uid (first_taken cmd) ≡ x
              → LookFinds s k cmd (unless_read x (take_or_commit (frames_taken s.store about_uid (first_taken cmd))
              (descriptors_taken s.store k about_uid cmd) (what_taken about_uid cmd)))
          read None i = commit_finds (frames_taken s.store about_uid (first_taken cmd))
              (descriptors_taken s.store k about_uid cmd) (taken_facts _ _ refl refl i brought inactive)
          read (Some f) i = found (first_taken cmd) f i

      -- the cut page of a `truncate`
      module _ (path : List (List ℕ)) (words : ℕ) (is : cmd ≡ command.Truncate path words)
          (chain_active : first_inactive s.store.ast (chain_of s.store.accounts.nodes about_uid) ≡ None) where
        brought_is : (eqb (words % 1024) 0 ≡ false → is_out (word_of s.store.ast about_uid (words / 1024)) ≡ false)
            → IsBrought s about_uid cmd
        brought_is h = subst (IsBrought s about_uid) (sym is) (chain_active, h)

        not_length : (q : List (List ℕ)) (pages : ℕ) → cmd ≡ command.Length q pages
            → is_active s.store.ast about_uid ≡ false
        not_length q pages e = cc

        cuts : eqb (words % 1024) 0 ≡ false → FindsCut s k cmd about_uid (words / 1024)
        cuts h = record {
          path = path;
          words = words;
          is = is;
          stands = stands;
          uid = refl;
          chain = chain_active;
          cuts = h;
          page = refl;
        }

        bring_finds : (w : Ptw) → word_of s.store.ast about_uid (words / 1024) ≡ w → eqb (words % 1024) 0 ≡ false
            → LookFinds s k cmd (bring_cut core about_uid (words / 1024) w (look_to_take s.store k about_uid cmd))
        bring_finds (ptw.Out n) e h = room_finds about_uid (words / 1024) (inr (cuts h))
            (λ g here. (let no : ptw.Out n ≡ ptw.Here g = sym e ∙ here in cc))
            (λ f. act.Start f about_uid (words / 1024))
            (λ f free unread. record { case = inr (cuts h); out = ap is_out e; frame = free; unread = unread })
        bring_finds _ e h = take_finds (brought_is (λ i. ap is_out e)) not_length

        cut_finds : LookFinds s k cmd (with_cut_page s.store about_uid words (look_to_take s.store k about_uid cmd))
        cut_finds = cond_both (eqb (words % 1024) 0) (look_to_take s.store k about_uid cmd) _ (LookFinds s k cmd)
            (λ h. take_finds (brought_is (λ i. cc)) not_length)
            (bring_finds (word_of s.store.ast about_uid (words / 1024)) refl)

      truncate_finds : (path : List (List ℕ)) (words : ℕ) → cmd ≡ command.Truncate path words
          → LookFinds s k cmd (with_chain s.store about_uid (with_cut_page s.store about_uid words
          (look_to_take s.store k about_uid cmd)))
      truncate_finds path words is = chain_finds about_uid (record { case = inr (path, words, is, stands, refl) })
          (with_cut_page s.store about_uid words (look_to_take s.store k about_uid cmd))
          (λ active. cut_finds path words is active)

      length_finds : (path : List (List ℕ)) (pages : ℕ) → cmd ≡ command.Length path pages
          → LookFinds s k cmd (cond (is_active s.store.ast about_uid)
          (empty_when_read core about_uid (act.Empty about_uid)) act.Commit)
      length_finds path pages is = cond_both (is_active s.store.ast about_uid)
          (empty_when_read core about_uid (act.Empty about_uid)) act.Commit (LookFinds s k cmd)
          (λ h. unless_finds about_uid any_page (act.Empty about_uid) (λ unread. record {
            path = path;
            pages = pages;
            is = is;
            stands = stands;
            uid = refl;
            active = h;
            unread = unread;
          })) (λ h. taken_facts [] [] (cc) (cc) (cc) (subst (IsBrought s about_uid) (sym is) tt) (λ q n e. h))

-- ---- whatever the next command is

module _ (s : State) (k : ℕ) where
  change_finds : (cmd : Command) → reference_of cmd ≡ None → refusal_of s k cmd ≡ None
      → LookFinds s k cmd (look_to_change s.store k (uid_of_command s.store k cmd) cmd)
  change_finds (command.Truncate path words) tree stands =
      truncate_finds s k (command.Truncate path words) tree stands path words refl
  change_finds (command.Length path pages) tree stands =
      length_finds s k (command.Length path pages) tree stands path pages refl
  change_finds cmd tree stands = take_finds s k cmd tree stands tt (λ q n e. absurd (cc e))

  -- What a look of the owner comes to is so.
  pub look_finds : (cmd : Command) → LookFinds s k cmd (look_of s k (Some cmd))
  look_finds cmd = by (reference_of cmd) refl
    where
      refuses : reference_of cmd ≡ None → (x : Option Reply) → refusal_of s k cmd ≡ x
          → LookFinds s k cmd (look_unless s k cmd x)
      refuses tree (Some x) e = refused_command s k cmd tree x e
      refuses tree None e = change_finds cmd tree e

      by : (x : Option Reference) → reference_of cmd ≡ x → LookFinds s k cmd (look_for s k cmd x)
      by (Some r) e = reference_finds s k cmd r e
      by None e = refuses e (refusal_of s k cmd) refl
