-- The least frame into which a page of a segment is being read, by the processors that read.
use Rattle.machine_tables.proofs.Prelude.{◌≡◌, ◌+◌, ◌<◌, ◌≤◌, ℕ, zero, suc, Bool, true, false, cond, List, length, Option, Some, None, ◌⊎◌, inl, inr, refl, sym, ap, ◌∙◌, arith, nat_le, eqb_tells, nat_tests, Frame, Free, Core, frame_at, reads_of, started_page, read_at, Transfer, Processor, frame_reading, is_page_of, no_processor, processor_at, map_list, AreRead, least_from, lesser, read_by, within_from, shown_within}
use Rattle.machine_tables.proofs.FindLaws.{position_first, position_not}

-- ---- the least of what processors read

some_same : {x y : ℕ} → Some x ≡ Some y → x ≡ y
some_same h = cc

lesser_from : (a b : Option ℕ) (f : ℕ) → lesser a b ≡ Some f → (a ≡ Some f) ⊎ (b ≡ Some f)
lesser_from a b f h1 = grind arith

-- the frames of two is at most each
abbrev pub AtMost : Option ℕ → ℕ → Type 0
AtMost o g = (f : ℕ) × (o ≡ Some f) × (f ≤ g)

least_of : (x y g : ℕ) → (x ≤ g) ⊎ (y ≤ g) → AtMost (Some (cond (nat_le x y) x y)) g
least_of x y g either = (cond (nat_le x y) x y, refl, grind (arith, nat_tests))

lesser_left : (a b : Option ℕ) (g : ℕ) → AtMost a g → AtMost (lesser a b) g
lesser_left None b g m = cc
lesser_left (Some x) None g m = m
lesser_left (Some x) (Some y) g m = least_of x y g (inl (omega (arith, some_same m.1)))

lesser_right : (a b : Option ℕ) (g : ℕ) → AtMost b g → AtMost (lesser a b) g
lesser_right None b g m = m
lesser_right (Some x) None g m = cc
lesser_right (Some x) (Some y) g m = least_of x y g (inr (omega (arith, some_same m.1)))

module _ (uid : ℕ) (test : ℕ → Bool) (ps : List Processor) where
  abbrev reads : ℕ → Option ℕ
  reads d = read_by uid test (processor_at ps d).cpu.transfer

  least_some : (n f : ℕ) → least_from uid test ps n ≡ Some f → (d : ℕ) × (reads d ≡ Some f)
  unfolding least_from
  least_some zero f h = cc
  least_some (suc n) f h = elim (lesser_from (least_from uid test ps n) (reads n) f h) [
    | inl e ↦ least_some n f e
    | inr e ↦ (n, e)
  ]

  least_most : (n d g : ℕ) → d < n → reads d ≡ Some g → AtMost (least_from uid test ps n) g
  unfolding least_from
  least_most zero d g lt h = absurd (omega arith)
  least_most (suc n) d g lt h = elim (eqb_tells d n) [
    | inl e ↦ lesser_right (least_from uid test ps n) (reads n) g (g, cc, omega arith)
    | inr m ↦ lesser_left (least_from uid test ps n) (reads n) g (least_most n d g (omega arith) h)
  ]

-- ---- the frames that are being read into

pub least_first : (uid : ℕ) (test : ℕ → Bool) (ps : List Processor) → None ≡ least_from uid test ps 0
unfolding least_from
least_first uid test ps = refl

least_next : (uid : ℕ) (test : ℕ → Bool) (ps : List Processor) (n : ℕ) → least_from uid test ps (n + 1)
    ≡ lesser (least_from uid test ps n) (read_by uid test (processor_at ps n).cpu.transfer)
unfolding least_from
least_next uid test ps n = ap (least_from uid test ps) (let e : n + 1 ≡ suc n = omega arith in e)

pub least_step : (uid : ℕ) (test : ℕ → Bool) (ps : List Processor) (n : ℕ) (least read now : Option ℕ)
    → least ≡ least_from uid test ps n → read ≡ read_by uid test (processor_at ps n).cpu.transfer
    → now ≡ lesser least read → now ≡ least_from uid test ps (n + 1)
least_step uid test ps n least read now l r e = cc (least_next uid test ps n)

module _ (core : Core) (ps : List Processor) (uid : ℕ) (test : ℕ → Bool) (under : AreRead core ps) where
  abbrev passes : Frame → Bool
  passes x = is_page_of uid test (started_page x)

  started_at : (f : ℕ) → read_at (reads_of core) f ≡ started_page (frame_at core f)
  started_at f = map_list started_page core.frames f Free

  -- what a processor reads is being read into its frame
  read_from : (d f : ℕ) (o : Option Transfer) → (processor_at ps d).cpu.transfer ≡ o → read_by uid test o ≡ Some f
      → passes (frame_at core f) ≡ true
  read_from d f o h1 h2 = grind (arith, some_same, started_at)

  -- what is being read into a frame is read by some processor
  reads_to : (f : ℕ) → passes (frame_at core f) ≡ true
      → (d : ℕ) × (read_by uid test (processor_at ps d).cpu.transfer ≡ Some f)
  reads_to f h = by (started_page (frame_at core f)) refl h
    where
      by : (o : Option (ℕ × ℕ)) → started_page (frame_at core f) ≡ o → is_page_of uid test o ≡ true
          → (d : ℕ) × (read_by uid test (processor_at ps d).cpu.transfer ≡ Some f)
      by None e i = absurd cc
      by (Some page) e i =
          let who = under.reader f page.0 page.1 (started_at f ∙ e) in (
            who.0,
            cc,
          )

  -- a processor that reads is one of them
  reader_within : (d f : ℕ) → read_by uid test (processor_at ps d).cpu.transfer ≡ Some f → d < length ps
  reader_within d f h = shown_within (λ p. read_by uid test p.cpu.transfer) ps d no_processor f refl h

  frame_within : (f : ℕ) → passes (frame_at core f) ≡ true → f < length core.frames
  frame_within f h = within_from core.frames f Free (λ none. cc)

  not_before : (g : ℕ) (o : Option ℕ) → least_from uid test ps (length ps) ≡ o → ((f : ℕ) → o ≡ Some f → g < f)
      → passes (frame_at core g) ≡ false
  not_before g o e below = by (passes (frame_at core g)) refl
    where
      by : (b : Bool) → passes (frame_at core g) ≡ b → b ≡ false
      by false i = refl
      by true i =
          let who = reads_to g i in
          let most = least_most uid test ps (length ps) who.0 g (reader_within who.0 g who.1) who.1 in
          absurd (omega (arith, below most.0 (sym e ∙ most.1)))

  -- the least frame is found either way
  pub reading_is : frame_reading core uid test ≡ least_from uid test ps (length ps)
  reading_is = by (least_from uid test ps (length ps)) refl
    where
      by : (o : Option ℕ) → least_from uid test ps (length ps) ≡ o → frame_reading core uid test ≡ o
      by None e = position_not passes Free core.frames (λ j lt. not_before j None e (λ f no. cc))
      by (Some f) e =
          let who = least_some uid test ps (length ps) f e in
          let here = read_from who.0 f (processor_at ps who.0).cpu.transfer refl who.1 in
          position_first passes Free core.frames f (frame_within f here) here
          (λ j lt. not_before j (Some f) e (λ g same. rw (← (some_same same)) lt))
