-- What a reference that a processor makes by itself asks follows from the promise, and from what it holds.
use Rattle.machine_model.proofs.Kept.{cases_Bool, eqb-true, and_parts, cond_both, eqb_self, ◌≡◌, ℕ, ◌*◌, true, false, ◌&&◌, cond, eqb, suc, List, [], ◌∷◌, map, get_or, Option, Some, None, inl, inr, refl, sym, ap, subst, ◌∙◌, arith, ◌/◌, nat_le, find, option_map, eqb_tells, leb_tells, ProcessPlan, nobody, who_of, reference_of, Command, RefKind, Reference, Reply, HeldPage, HeldSeg, frame_of, is_number, is_page, seg_of, access_of, Node, node_in, Ptw, Sdw, uid_at, has_record, word_of, who_at, reply_to_command, is_stored, alters, new_word, permits, reply_to_reference, room_reply, stores_page, word_reply, written, Store, known_uid, DescriptorUse, IsPageAt, MayDo, is_word_or_done, stores, has, leads_to, Outcome, AreHeldPages, AreHeldSegs, names, AreEntitled, IsEntitled, IsEntitledToAll, led_to, seen, page_in, AreThere, Keeps, cpu_at, cut_of_owner, descriptor_of, flat_of, is_active, process_at, Says, Seen, cut_uid, cut_use, descriptor_use, is_cut_at, shown, State, Storage, old_word, CutDescriptor, not_both, RefKind as kind, Reply as reply, Ptw as ptw, Sdw as sdw, references_after_reference as after_reference, custody_bound_page as bound_page, same_Some, Action as act, through_seen, bound_shown, find_true, IsAlike, alike, stored_due, zero_due, zero_free, stored_free, IsInside, active_there, bound_word, null_word, stored_is, plain_says, refused_says, through_says, Speaks, can_refuse, can_tell, binding_is, tell_kept_CanTell as CanTell, active_at, some_there, or_true}
use Rattle.machine_model.proofs.StepKept.{CanGoThrough, CanReply}

-- ---- what is held

-- each of some entries has a property
abbrev pub AllSegs : (HeldSeg → Type 0) → List HeldSeg → Type 0
AllSegs P [] = Unit {0}
AllSegs P (e ∷ es) = P e × AllSegs P es

-- a descriptor that is found is one of those held
pub seg_found : (P : HeldSeg → Type 0) (es : List HeldSeg) (n : ℕ) (e : HeldSeg) → find (is_number n) es ≡ Some e
    → AllSegs P es → P e
seg_found P [] n e h all = cc
seg_found P (x ∷ xs) n e h all = elim (cases_Bool (is_number n x)) [
  | inl is ↦ subst P (same_Some x e (rw is at h)) all.0
  | inr isnt ↦ seg_found P xs n e (rw isnt at h) all.1
]

pub entitled_all : (s : State) (k : ℕ) (es : List HeldSeg)
    → AreEntitled s.store.accounts.nodes s.store.whos s.store.links.known k es
    → AllSegs (IsEntitled s.store.accounts.nodes s.store.whos s.store.links.known k) es
entitled_all s k [] h = tt
entitled_all s k (e ∷ es) h = (h.0, entitled_all s k es h.1)

pub leads_all : (d : ℕ → ℕ → DescriptorUse) (k : ℕ) (es : List HeldSeg) → AreHeldSegs d k es
    → AllSegs (λ e. leads_to (d k e.number) ≡ Some e.uid) es
leads_all d k [] h = tt
leads_all d k (e ∷ es) h = (h.0, leads_all d k es h.1)

-- it is held, by its number
seg_has : (es : List HeldSeg) (n : ℕ) (e : HeldSeg) → find (is_number n) es ≡ Some e
    → has (map (λ x. x.number) es) n ≡ true
seg_has [] n e h = cc
seg_has (x ∷ xs) n e h = elim (cases_Bool (is_number n x)) [
  | inl is ↦ rw is refl
  | inr isnt ↦ rw isnt (seg_has xs n e (rw isnt at h))
]

number_is : (n : ℕ) (e : HeldSeg) → is_number n e ≡ true → e.number ≡ n
number_is n e h = eqb-true e.number n h

-- so is a page table word, by its frame, which has the page
page_is_held : (bound : ℕ → Option (ℕ × ℕ)) (es : List HeldPage) (u p f : ℕ)
    → option_map (λ x. x.frame) (find (is_page u p) es) ≡ Some f → AreHeldPages bound es
    → (has (map (λ x. x.frame) es) f ≡ true) × (bound f ≡ Some (u, p))
page_is_held bound [] u p f h all = cc
page_is_held bound (x ∷ xs) u p f h all = elim (cases_Bool (is_page u p x)) [
  | inl e ↦ (let same : x.frame ≡ f = same_Some x.frame f (rw e at h) in let both = same_both x.uid x.page u p e in (
    cc (same, eqb_self f),
    ap bound (sym same) ∙ (all.0 ∙ λ j. Some (both.0 j, both.1 j)),
  ))
  | inr e ↦ (let both = page_is_held bound xs u p f (rw e at h) all.1 in (rw both.0 (or_true (eqb x.frame f)), both.1))
]
  where
    same_both : (a b c d : ℕ) → (eqb a c && eqb b d) ≡ true → (a ≡ c) × (b ≡ d)
    same_both a b c d e = let parts = and_parts (eqb a c) (eqb b d) e in (eqb-true a c parts.0, eqb-true b d parts.1)

-- a page that is in a frame is stored
pub bound_stored : {s : State} → Keeps s → (f u p : ℕ) → is_active s.store.ast u ≡ true → (seen s).bound f ≡ Some (u, p)
    → is_stored (flat_of s).stored u p ≡ true
bound_stored {s} k f u p active bound = stored_is s k u active p
    ∙ recorded (word_of s.store.ast u p) (k.book.tied.named f u p bound)
  where
    recorded : (w : Ptw) → names w ≡ Some f → has_record w ≡ true
    recorded (ptw.Here g) e = refl
    recorded (ptw.Leaving g) e = refl
    recorded _ e = cc

-- ---- a processor that refers by itself

-- a descriptor that was cut is of a segment that is active still
pub cut_active : (st : Storage) (ds : List CutDescriptor) (k n u : ℕ) → AreThere st ds → cut_uid ds k n ≡ Some u
    → is_active st.ast u ≡ true
cut_active st [] k n u h e = cc
cut_active st (d ∷ ds) k n u h e = elim (cases_Bool (is_cut_at k n d)) [
  | inl is ↦ rw (same_Some d.uid u (rw is at e)) at h.0.2
  | inr isnt ↦ cut_active st ds k n u h.1 (rw isnt at e)
]

-- what a descriptor leads to, or led to until it was cut, is active
pub descriptor_active : (s : State) (k n u : ℕ) → Keeps s → leads_to ((shown (seen s)).descriptor k n) ≡ Some u
    → is_active s.store.ast u ≡ true
descriptor_active s k n u keeps h = by (descriptor_of s.store.links k n) refl h
  where
    cut_one : (x : Option ℕ) → cut_uid (cut_of_owner s.owner) k n ≡ x → leads_to (cut_use x) ≡ Some u
        → is_active s.store.ast u ≡ true
    cut_one None e i = cc
    cut_one (Some v) e i = cut_active s.store (cut_of_owner s.owner) k n u keeps.cut (e ∙ i)

    led : (x : Option ℕ) (aste : ℕ) → uid_at s.store.ast.entries aste ≡ x
        → leads_to (descriptor_use x (cut_uid (cut_of_owner s.owner) k n)) ≡ Some u → is_active s.store.ast u ≡ true
    led None aste e i = cut_one (cut_uid (cut_of_owner s.owner) k n) refl i
    led (Some v) aste e i = active_at s.store.ast aste u (e ∙ i)

    by : (x : Sdw) → descriptor_of s.store.links k n ≡ x
        → leads_to (descriptor_use (led_to s.store.ast.entries x) (cut_uid (cut_of_owner s.owner) k n)) ≡ Some u
        → is_active s.store.ast u ≡ true
    by sdw.Fault e i = cut_one (cut_uid (cut_of_owner s.owner) k n) refl i
    by (sdw.Present aste m pages) e i = led (uid_at s.store.ast.entries aste) aste refl i

-- the principals of the script are those of the store
pub who_is : {s : State} (keeps : Keeps s) (k : ℕ) → who_at s.store.whos k ≡ who_of s.plan k
who_is {s} keeps k = cc (map_who s.plan.processes k)
  where
    map_who : (ps : List ProcessPlan) (j : ℕ) → who_at (map (λ x. x.who) ps) j
        ≡ (get_or ps j (record { who = nobody; commands = [] })).who
    map_who (p ∷ ps) (suc j) = map_who ps j
    map_who _ _ = refl

-- what is answered past the access list, and past the length
abbrev page_reply : State → Reference → Node → Reply
page_reply s r n = cond (stores_page (flat_of s) n.uid r.offset r.kind) (room_reply s.plan (flat_of s) n
    (word_reply ((flat_of s).words n.uid r.offset) r.kind)) (word_reply ((flat_of s).words n.uid r.offset) r.kind)

module _ (s : State) (c : ℕ) (keeps : Keeps s) (entitled : IsEntitledToAll s) (cmd : Command)
    (speaks : Speaks s c (process_at s c) cmd) (r : Reference) (is : reference_of cmd ≡ Some r) (h : HeldSeg)
    (held : seg_of (cpu_at s.processors c).assoc r.number ≡ Some h) where
  abbrev k : ℕ
  k = process_at s c

  abbrev t : Store
  t = flat_of s

  right : IsEntitled s.store.accounts.nodes s.store.whos s.store.links.known k h
  right = seg_found (IsEntitled s.store.accounts.nodes s.store.whos s.store.links.known k)
      (cpu_at s.processors c).assoc.segs r.number h held
      (entitled_all s k (cpu_at s.processors c).assoc.segs (entitled.each c k speaks.its))

  number_same : h.number ≡ r.number
  number_same = number_is r.number h (find_true (is_number r.number) (cpu_at s.processors c).assoc.segs h held)

  -- its segment is active, so its node is there
  pub held_active : is_active s.store.ast h.uid ≡ true
  held_active = let its_segs = rw speaks.its at (keeps.book.holding_right c).segs in
      descriptor_active s k h.number h.uid keeps
      (seg_found (λ e. leads_to ((shown (seen s)).descriptor k e.number) ≡ Some e.uid)
      (cpu_at s.processors c).assoc.segs r.number h held (leads_all (shown (seen s)).descriptor k
      (cpu_at s.processors c).assoc.segs its_segs))

  pub known : known_uid t k r.number ≡ Some h.uid
  known = cc (keeps.faithful.known, number_same, right.stands)

  record HasNode : Type 0 where
    node : Node
    there : node_in t.nodes h.uid ≡ Some node
    mode : h.mode ≡ access_of (who_of s.plan k) node.rows
    pages : h.pages ≡ node.pages

  has_node : HasNode
  has_node = let n = some_there (node_in s.store.accounts.nodes h.uid) (active_there s keeps h.uid held_active) in
      record { node = n.0; there = cc; mode = cc (right.mode n.0 n.1, who_is keeps k); pages = right.pages n.0 n.1 }

  -- a reference that the held descriptor refuses
  no_access : permits h.mode r.kind ≡ false → reply_to_reference s.plan t k r ≡ reply.NoAccess
  unfolding reply_to_reference
  no_access off = cc (known, has_node.there, has_node.mode)

  too_long : permits h.mode r.kind ≡ true → nat_le (1024 * h.pages) r.offset ≡ true
      → reply_to_reference s.plan t k r ≡ reply.Length
  unfolding reply_to_reference
  too_long on long = cc (known, has_node.there, has_node.mode, has_node.pages)

  due : (x : Reply) → reply_to_reference s.plan t k r ≡ x → x ≡ reply_to_command s.plan t k cmd
  due x e = cc

  pub no_access_asks : permits h.mode r.kind ≡ false → CanReply s c reply.NoAccess
  no_access_asks off = assumption (
    can_refuse speaks (due reply.NoAccess (no_access off)) refl,
    refused_says c k None reply.NoAccess keeps refl,
  )

  pub length_asks : permits h.mode r.kind ≡ true → nat_le (1024 * h.pages) r.offset ≡ true → CanReply s c reply.Length
  length_asks on long = assumption (
    can_refuse speaks (due reply.Length (too_long on long)) refl,
    refused_says c k None reply.Length keeps refl,
  )

  module _ (on : permits h.mode r.kind ≡ true) (short : nat_le (1024 * h.pages) r.offset ≡ false) where
    inside : IsInside s k r h.uid
    inside = record {
      known = known;
      node = has_node.node;
      there = has_node.there;
      permitted = cc (has_node.mode, on);
      within = rw (← has_node.pages) (elim (leb_tells (1024 * h.pages) r.offset) [
        | inl e ↦ absurd (not_both e.0 short)
        | inr m ↦ (let lt = m.1 in omega (arith, lt))
      ]);
    }

    word_answer : (w : ℕ) (how : RefKind) → is_word_or_done (word_reply w how) ≡ true
    word_answer w kind.Read = refl
    word_answer w _ = refl

    -- a page of zeros that stays one
    pub zero_asks : word_of s.store.ast h.uid (r.offset / 1024) ≡ ptw.Null → eqb (new_word 0 r.kind) 0 ≡ true
        → CanReply s c (word_reply 0 r.kind)
    unfolding after_reference
    zero_asks null stays = record {
      tell = can_tell None (word_reply 0 r.kind) speaks (inl (record {
        own = due (word_reply 0 r.kind) (zero_due s k r keeps h.uid inside zero_word stays);
        free = zero_free s k r keeps h.uid inside cmd is zero_word stays;
      })) (rw is (inr (ap (λ (x : Option ℕ). stores t x r.offset) known
          ∙ (stored_is s keeps h.uid held_active (r.offset / 1024) ∙ ap has_record null))));
      says = plain_says c keeps speaks.next is like;
    }
      where
        zero_word : t.words h.uid r.offset ≡ 0
        zero_word = null_word s keeps h.uid held_active r.offset null

        zeros_put : (v o : ℕ) → cond (eqb v h.uid && eqb o r.offset) 0 (t.words v o) ≡ t.words v o
        zeros_put v o = elim (eqb_tells v h.uid) [
          | inl a ↦ elim (eqb_tells o r.offset) [
            | inl b ↦ rw (a.0, b.0) (cc (a.1, b.1, zero_word))
            | inr b ↦ rw (a.0, b.0) refl
          ]
          | inr a ↦ rw a.0 refl
        ]

        zero_written : IsAlike t (written t h.uid r.offset 0)
        zero_written = record { nodes = refl; next = refl; words = zeros_put; stored = refl; known = refl }

        like : IsAlike t (after_reference t k r)
        like = subst (IsAlike t) (cc (known)) (cond_both (alters r.kind)
            (written t h.uid r.offset (new_word (t.words h.uid r.offset) r.kind)) t (IsAlike t)
            (λ h. (rw (ap (λ (w : ℕ). new_word w r.kind) zero_word ∙ eqb-true (new_word 0 r.kind) 0 stays)
            zero_written)) (λ h. alike t))

    -- a page that is held goes through its frame
    pub through_asks : (o : Outcome) (f : ℕ) → frame_of (cpu_at s.processors c).assoc h.uid (r.offset / 1024) ≡ Some f
        → Says s c o (act.Through f r) → CanGoThrough s c f r
    through_asks o f found says = record {
      tell = record {
        there = tells.there;
        known = tells.known;
        command = tells.command;
        next = tells.next;
        lawful = tells.lawful;
        allowed = subst (λ (v : Seen). MayDo s.plan t (shown v) k c (Some f) answer) (sym (through_seen s f r))
            tells.allowed;
      };
      says = through_says f keeps says speaks.next is known page_at old_is;
    }
      where
        both : (has ((shown (seen s)).seat c).pages f ≡ true) × ((seen s).bound f ≡ Some (h.uid, r.offset / 1024))
        both = page_is_held (seen s).bound (cpu_at s.processors c).assoc.pages h.uid (r.offset / 1024) f found
            (keeps.book.holding_right c).pages

        answer : Reply
        answer = word_reply (old_word s.store.pages f r) r.kind

        page_at : page_in s.store f ≡ (h.uid, r.offset / 1024)
        page_at = cc (binding_is s f, both.1)

        old_is : old_word s.store.pages f r ≡ t.words h.uid r.offset
        old_is = sym (bound_word s keeps h.uid held_active f r.offset both.1)

        stored : is_stored t.stored h.uid (r.offset / 1024) ≡ true
        stored = bound_stored keeps f h.uid (r.offset / 1024) held_active both.1

        tells : CanTell s c k (Some f) answer
        tells = can_tell (Some f) answer speaks (inl (record {
          own = ap (λ (w : ℕ). word_reply w r.kind) old_is
              ∙ due (word_reply (t.words h.uid r.offset) r.kind) (stored_due s k r keeps h.uid inside stored);
          free = stored_free s k r keeps h.uid inside cmd is stored;
        })) (rw is (record {
          segment = seg_has (cpu_at s.processors c).assoc.segs r.number h held;
          page = both.0;
          bound = page_there (bound_page ((shown (seen s)).frame f)) (bound_shown (seen s) f ∙ both.1);
          answered = word_answer (old_word s.store.pages f r) r.kind;
        }))
          where
            page_there : (x : Option (ℕ × ℕ)) → x ≡ Some (h.uid, r.offset / 1024)
                → IsPageAt (known_uid t k r.number) r.offset x
            page_there None e = cc
            page_there (Some x) e = (
              known ∙ ap (λ (y : ℕ × ℕ). Some y.0) (sym (page_same x e)),
              ap (λ (y : ℕ × ℕ). y.1) (page_same x e),
            )
              where
                page_same : (y : ℕ × ℕ) → ◌≡◌ {A = Option (ℕ × ℕ)} (Some y) (Some (h.uid, r.offset / 1024))
                    → y ≡ (h.uid, r.offset / 1024)
                page_same y i = cc
