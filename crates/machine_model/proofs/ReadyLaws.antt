-- What a tree command must have out of use is so where it takes effect, as the tables are asked.
use Rattle.machine_model.proofs.StepBasics.{◌≡◌, ◌<◌, ◌≤◌, ℕ, Bool, true, false, ◌&&◌, List, [], Option, Some, None, Ok, inl, inr, refl, sym, ap, ◌∙◌, arith, ◌/◌, ◌%◌, eqb_tells, Command, Node, branch_at, node_at, segment_at, bound_page, frame_at, started_page, Ptw, is_out_word, Sdw, IsActive, uid_at, leads, leads_at, place_of, word_of, IsCut, is_filed, is_there, pages_in, has, is_going_frame, page_of, is_out, names, holding, led_to, seen, Keeps, IsReadyFor, IsRemovable, IsTakenFrom, IsTakenPast, OwnsAll, OwnsFor, OwnsFrom, descriptor_of, frames_of_owner, is_active, uid_of_command, uid_of_node, bound_use, frame_use, read_use, State, IsTakenFor, TakesDescriptor, TakesPage, branch_found, only_found, not_both, Command as command, Frame as core_frame, Ptw as ptw, Sdw as sdw, active_place, map_list, stored_is, none_some, active_at, started_free}
use Rattle.storage_ops.specs.Cut.{is_here}
use Rattle.machine_model.proofs.CommitRests.{linked_on, none_listed, page_bound}

-- ---- what goes

module _ (s : State) (keeps : Keeps s) where
  -- a frame that the owner took has a page that is on its way out
  record HasGoing (f : ℕ) : Type 0 where
    uid : ℕ
    page : ℕ
    bound : (seen s).bound f ≡ Some (uid, page)
    leaving : word_of s.store.ast uid page ≡ ptw.Leaving f

  going_has : (f : ℕ) → is_going_frame ((holding s).frame f) ≡ true → HasGoing f
  going_has f going = by ((seen s).bound f) refl going
    where
      read : (y : Option (ℕ × ℕ)) → is_going_frame (read_use y) ≡ false
      read None = refl
      read (Some page) = refl

      word : (page : ℕ × ℕ) (w : Ptw) → names w ≡ Some f → is_going_frame (bound_use page w) ≡ true → w ≡ ptw.Leaving f
      word page (ptw.Leaving g) n h = cc
      word page _ n h = cc

      by : (x : Option (ℕ × ℕ)) → (seen s).bound f ≡ x
          → is_going_frame (frame_use (seen s).words x ((seen s).reads f)) ≡ true → HasGoing f
      by None e h = cc (read ((seen s).reads f))
      by (Some page) e h = record {
        uid = page.0;
        page = page.1;
        bound = e;
        leaving = word page ((seen s).words page.0 page.1) (keeps.book.tied.named f page.0 page.1 e) h;
      }

  listed_has : (f : ℕ) → has (frames_of_owner s.owner) f ≡ true → HasGoing f
  listed_has f listed = going_has f (keeps.book.going_owned.frames f ∙ listed)

  -- what is on its way out was taken
  leaving_listed : (u q f : ℕ) → word_of s.store.ast u q ≡ ptw.Leaving f → has (frames_of_owner s.owner) f ≡ true
  leaving_listed u q f h = cc (keeps.book.going_owned.frames f, keeps.book.tied.back f u q (ap names h))

  -- a descriptor that leads somewhere leads to an active segment
  leads_none : (j n : ℕ) → ((v : ℕ) → (seen s).linked j n ≡ Some v → ⊥) → leads_at s.store.links.descriptors j n ≡ None
  leads_none j n none = by (descriptor_of s.store.links j n) refl
    where
      by : (x : Sdw) → descriptor_of s.store.links j n ≡ x → leads_at s.store.links.descriptors j n ≡ None
      by sdw.Fault e = ap leads e
      by (sdw.Present aste m pages) e = let at = keeps.store.kept.linked.known j n aste (ap leads e) in
          absurd (none at.uid (cc))

  is_cut : (u : ℕ) → ((j n : ℕ) → (seen s).linked j n ≡ Some u → ⊥) → IsCut s.store.ast.entries s.store.links u
  is_cut u none = record {
    none = λ j n place e at. by j n place (descriptor_of s.store.links j n) refl e at;
  }
    where
      by : (j n place : ℕ) (x : Sdw) → descriptor_of s.store.links j n ≡ x → leads_at s.store.links.descriptors j n
          ≡ Some place → uid_at s.store.ast.entries place ≡ Some u → ⊥
      by j n place sdw.Fault e i at = none_some (sym (ap leads e) ∙ i)
      by j n place (sdw.Present aste m pages) e i at = none j n (ap (led_to s.store.ast.entries) e
          ∙ (ap (uid_at s.store.ast.entries) (some_same aste place (cc)) ∙ at))
        where
          some_same : (a b : ℕ) → Some a ≡ Some b → a ≡ b
          some_same a b h = cc

  -- a page that is on its way out is one of its segment's length
  page_inside : (u q f : ℕ) → word_of s.store.ast u q ≡ ptw.Leaving f → q < pages_in s.store.accounts.nodes u
  unfolding is_filed
  page_inside u q f h = keeps.store.counted.counted.inside u q (keeps.store.counted.active.there active.0 u active.1)
      (second (is_there s.store.accounts.nodes u) (cc (
        keeps.faithful.pages.stored u q,
        stored_is s keeps u (active_at s.store.ast active.0 u active.1) q,
      )))
    where
      active : IsActive s.store.ast.entries u
      active = keeps.store.kept.paged.bound f u q (keeps.book.tied.back f u q (ap names h))

      second : (a : Bool) {b : Bool} → (a && b) ≡ true → b ≡ true
      second true e = e
      second false e = cc

-- ---- what a command takes

module _ (s : State) (k : ℕ) (cmd : Command) (keeps : Keeps s) (h : IsTakenFor s k cmd) where
  abbrev u : ℕ
  u = uid_of_command s.store k cmd

  -- a descriptor that it takes isn't connected
  unlinked : (j n v : ℕ) → TakesDescriptor cmd k u j n v → (seen s).linked j n ≡ Some v → ⊥
  unlinked j n v takes e = let at = linked_on s k cmd keeps h j n e in
      not_both (h.just.descriptors j n v at.0 takes) at.1

  -- the pages that it takes from a number on
  taken_from : (low : ℕ) → ((q : ℕ) → low ≤ q → TakesPage cmd u u q) → IsTakenFrom s.store u low
  taken_from low takes = record {
    taken = λ q le. by q (takes q le) (word_of s.store.ast u q) refl;
    idle = λ q le. record { none = λ f e. read q f (takes q le) e };
  }
    where
      by : (q : ℕ) → TakesPage cmd u u q → (w : Ptw) → word_of s.store.ast u q ≡ w
          → is_here (word_of s.store.ast u q) ≡ false
      by q page (ptw.Here f) e = absurd (not_both (h.just.pages f u q (its ∙ page_bound (seen s).words (u, q)
          ((seen s).reads f)) page) (cc at))
        where
          at : (seen s).bound f ≡ Some (u, q)
          at = keeps.book.tied.back f u q (ap names e)

          its : page_of ((holding s).frame f) ≡ page_of (frame_use (seen s).words (Some (u, q)) ((seen s).reads f))
          its = ap (λ (x : Option (ℕ × ℕ)). page_of (frame_use (seen s).words x ((seen s).reads f))) at
      by q page _ e = ap is_here e

      read : (q f : ℕ) → TakesPage cmd u u q → frame_at s.store.pages.core f ≡ core_frame.Started u q → ⊥
      read q f page e = started_free (TakesPage cmd u) (TakesDescriptor cmd k u) f u q h.just
          (cc (keeps.book.tied.unbound f u q reads, reads)) page
        where
          reads : (seen s).reads f ≡ Some (u, q)
          reads = cc (map_list started_page s.store.pages.core.frames f core_frame.Free)

  -- the frames that the owner took
  owned_page : {f : ℕ} (g : HasGoing s keeps f) → is_going_frame ((holding s).frame f) ≡ true
      → TakesPage cmd u g.uid g.page
  owned_page {f} g going = h.just.its_pages f g.uid g.page
      (cc (page_bound (seen s).words (g.uid, g.page) ((seen s).reads f))) going

  none_owned : ((v q : ℕ) → TakesPage cmd u v q → ⊥) → frames_of_owner s.owner ≡ []
  none_owned none = none_listed (frames_of_owner s.owner) (λ f e. (let g = listed_has s keeps f e in
      none g.uid g.page (owned_page g (keeps.book.going_owned.frames f ∙ e))))

-- ---- each command

-- a `length` takes effect where its segment isn't active
abbrev pub IsOutOfUse : State → ℕ → Command → Type 0
IsOutOfUse s k cmd = (path : List (List ℕ)) (pages : ℕ) → cmd ≡ command.Length path pages
    → is_active s.store.ast (uid_of_command s.store k cmd) ≡ false

module _ {s : State} (k : ℕ) (keeps : Keeps s) where
  segment_uid : (path : List (List ℕ)) (n : Node) → segment_at s.store.accounts.nodes path ≡ Ok n
      → uid_of_node (node_at s.store.accounts.nodes path) ≡ n.uid
  segment_uid path n e = ap uid_of_node (only_found (node_at s.store.accounts.nodes path) n e).0

  branch_uid : (path : List (List ℕ)) (n : Node) → branch_at s.store.accounts.nodes path ≡ Ok n
      → uid_of_node (node_at s.store.accounts.nodes path) ≡ n.uid
  branch_uid path n e = ap uid_of_node (branch_found s.store.accounts.nodes path n e).0

  not_out : (w : Ptw) → is_out w ≡ false → is_out_word w ≡ false
  not_out (ptw.Out r) h = cc
  not_out _ h = refl

  truncate_past : (path : List (List ℕ)) (words : ℕ) → IsTakenFor s k (command.Truncate path words)
      → IsTakenPast s.store (uid_of_command s.store k (command.Truncate path words)) words
  truncate_past path words h = record {
    active = (place_of s.store.ast.entries _, (active_place s.store.ast _ h.brought.0).1);
    past = taken_from s k (command.Truncate path words) keeps h (words / 1024) (λ q le. (refl, le));
    cut = λ some. not_out _ (h.brought.1 (elim (eqb_tells (words % 1024) 0) [
      | inl e ↦ absurd (omega arith)
      | inr n ↦ n.0
    ]));
  }

  truncate_owns : (path : List (List ℕ)) (words : ℕ) → IsTakenFor s k (command.Truncate path words)
      → OwnsFrom s.store (uid_of_command s.store k (command.Truncate path words)) (words / 1024)
      (frames_of_owner s.owner)
  truncate_owns path words h = record {
    pages = λ g listed. (let its = listed_has s keeps g listed in
        let takes = owned_page s k (command.Truncate path words) keeps h its
        (keeps.book.going_owned.frames g ∙ listed) in (
          its.page,
          takes.1,
          sym (map_list bound_page s.store.pages.core.frames g core_frame.Free)
              ∙ (its.bound ∙ (λ i. Some (takes.0 i, its.page))),
          cc,
        ));
  }

  delete_owns : (path : List (List ℕ)) → IsTakenFor s k (command.Delete path)
      → OwnsAll s.store (uid_of_command s.store k (command.Delete path)) (frames_of_owner s.owner)
  delete_owns path h = record {
    pages = λ g listed. (let its = listed_has s keeps g listed in
        let takes = owned_page s k (command.Delete path) keeps h its (keeps.book.going_owned.frames g ∙ listed) in
        let word = ap (λ (v : ℕ). word_of s.store.ast v its.page) (sym takes) ∙ its.leaving in
        (its.page, page_inside s keeps _ its.page g word, word));
    each = λ q g e. leaving_listed s keeps _ q g e;
  }

  delete_removable : (path : List (List ℕ)) → IsTakenFor s k (command.Delete path)
      → IsRemovable s.store (uid_of_command s.store k (command.Delete path))
  delete_removable path h = record {
    cut = is_cut s keeps _ (λ j n e. unlinked s k (command.Delete path) keeps h j n _ refl e);
    taken = taken_from s k (command.Delete path) keeps h 0 (λ q le. refl);
  }

  -- what a command must have out of use is so, and its job took just that
  pub ready_by : (cmd : Command) → IsTakenFor s k cmd → IsOutOfUse s k cmd
      → IsReadyFor s.store k cmd × OwnsFor s.store (frames_of_owner s.owner) cmd
  ready_by (command.Terminate number) h out = (
    leads_none s keeps k number (λ v e. unlinked s k (command.Terminate number) keeps h k number v (refl, refl) e),
    none_owned s k (command.Terminate number) keeps h (λ v q t. t),
  )
  ready_by (command.Acl path row m) h out = (
    λ n e. is_cut s keeps n.uid (λ j i f. unlinked s k (command.Acl path row m) keeps h j i n.uid
        (sym (segment_uid path n e)) f),
    none_owned s k (command.Acl path row m) keeps h (λ v q t. t),
  )
  ready_by (command.Length path pages) h out = (
    λ n e. record {
      nowhere = λ place at. not_both (active_at s.store.ast place n.uid at)
          (cc (segment_uid path n e, out path pages refl));
    },
    none_owned s k (command.Length path pages) keeps h (λ v q t. t),
  )
  ready_by (command.Truncate path words) h out = (
    λ n e. rw (← (segment_uid path n e)) (truncate_past path words h),
    λ n e. (rw (segment_uid path n e) at (truncate_owns path words h)),
  )
  ready_by (command.Delete path) h out = (
    λ n e. rw (← (branch_uid path n e)) (delete_removable path h),
    λ n e. rw (← (branch_uid path n e)) (delete_owns path h),
  )
  ready_by command.End h out = (
    λ n. leads_none s keeps k n (λ v e. unlinked s k command.End keeps h k n v refl e),
    none_owned s k command.End keeps h (λ v q t. t),
  )
  ready_by (command.MkDir path volume) h out = (tt, none_owned s k (command.MkDir path volume) keeps h (λ v q t. t))
  ready_by (command.MkSeg path pages volume) h out =
      (tt, none_owned s k (command.MkSeg path pages volume) keeps h (λ v q t. t))
  ready_by (command.Initiate path) h out = (tt, none_owned s k (command.Initiate path) keeps h (λ v q t. t))
  ready_by (command.Move path amount) h out = (tt, none_owned s k (command.Move path amount) keeps h (λ v q t. t))
  ready_by (command.Status path) h out = (tt, none_owned s k (command.Status path) keeps h (λ v q t. t))
  ready_by (command.Read n w) h out = (tt, none_owned s k (command.Read n w) keeps h (λ v q t. t))
  ready_by (command.Write n w x) h out = (tt, none_owned s k (command.Write n w x) keeps h (λ v q t. t))
  ready_by (command.Add n w x) h out = (tt, none_owned s k (command.Add n w x) keeps h (λ v q t. t))
  ready_by (command.Await n w x t) h out = (tt, none_owned s k (command.Await n w x t) keeps h (λ v q z. z))
