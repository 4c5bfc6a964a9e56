use Rattle.seg_control.proofs.Committing.{Commits, None, Option, Out, Ptw, ap, gained, is_moving, is_out, kept_committed, kept_moving, map_new, named_moved, new_free, ptw_at, refl, rehomed_word, stored_moved, table_at, table_of, taken_moved, tie_here, uid_new, words_moved, words_others, ℕ, ◌∙◌, ◌≡◌}
use Rattle.seg_control.proofs.segs.Segs.move_commit.Goals as goal

pub rehome-requires : goal.rehome-requires
rehome-requires g c =
    let k = kept_moving (rw (← c.self.view_is) at c.requires.moving) c.self.invariant in
    let here = tie_here k in
    let moving = k.way.moving in
    rw (c.table_mut.ensures.value, c.place_in-place.ensures.is) (record {
      pages = here.pages;
      table = here.table;
      home = record { volume = moving.target; used = moving.new_used; stored = λ p. moving.same p ∙ here.map.stored p };
    })

pub commit-requires : goal.commit-requires
commit-requires g c =
    let k = kept_moving (rw (← c.self.view_is) at c.requires.moving) c.self.invariant in
    rw (c.volumes_mut.ensures.value, c.rehome.ensures.effect)
    (is_moving g.D.Drive.pages c.self.inside.pages k.way.moving)

-- another file map leaves each page on its record alone, or in its frame, as it was
out_rehomed : (word : Ptw) (place : Option ℕ) → is_out (rehomed_word word place) ≡ is_out word
out_rehomed (Out r) None = refl
out_rehomed _ _ = refl

-- what was called for, and what it left
commits : (g : _) (c : goal.After-self-3-1 g) → Commits g.D.Drive.pages c.self.inside.pages c.rehome.new.self
    c.commit.new.v c.self.inside.ast c.self.inside.links c.args.m c.place_in-place.result c.rehome.new.t
commits g c =
    let here = ap (table_at c.self.inside.ast.tables) c.place_in-place.ensures.is in
    let table : c.table_mut.result.now ≡ table_of c.self.inside.ast c.args.m.uid = c.table_mut.ensures.value ∙ here in
    record {
      kept = kept_moving (rw (← c.self.view_is) at c.requires.moving) c.self.invariant;
      done = rw (← c.self.view_is) at c.requires.done;
      at = c.place_in-place.ensures.at;
      within = c.place_in-place.ensures.within;
      here = here;
      effect = c.rehome.ensures.effect;
      size = rw table at c.rehome.ensures.size;
      outs = λ p. rw (← table, c.rehome.ensures.word p) (out_rehomed (ptw_at c.table_mut.result.now p) _);
      table = c.rehome.ensures.table;
      tie = rw table at c.rehome.ensures.tie;
      moved = rw table at c.rehome.ensures.moved;
      words = c.rehome.ensures.words;
      ties = c.rehome.ensures.ties;
      bound = c.rehome.ensures.bindings;
      reads = c.rehome.ensures.reads;
      given = rw c.volumes_mut.ensures.value at c.commit.ensures.committed;
    }

pub invariant_of-self : goal.invariant_of-self
invariant_of-self g c = kept_committed (commits g c)

pub returns-clause-free : goal.returns-clause-free
returns-clause-free g c = rw (← c.self.view_is, rw (← c.self.view_is) at c.requires.moving) (new_free (commits g c))

pub returns-clause-uids : goal.returns-clause-uids
returns-clause-uids g c = rw (← c.self.view_is, rw (← c.self.view_is) at c.requires.moving) (uid_new (commits g c))

pub returns-clause-maps : goal.returns-clause-maps
returns-clause-maps g c = rw (← c.self.view_is, rw (← c.self.view_is) at c.requires.moving) (map_new (commits g c))

pub returns-clause-stored : goal.returns-clause-stored
returns-clause-stored g c =
    rw (← c.self.view_is, rw (← c.self.view_is) at c.requires.moving) (stored_moved (commits g c))

pub returns-clause-named : goal.returns-clause-named
returns-clause-named g c = rw (← c.self.view_is, rw (← c.self.view_is) at c.requires.moving) (named_moved (commits g c))

pub returns-clause-taken : goal.returns-clause-taken
returns-clause-taken g c = rw (← c.self.view_is, rw (← c.self.view_is) at c.requires.moving) (taken_moved (commits g c))

pub returns-clause-gained : goal.returns-clause-gained
returns-clause-gained g c = rw (← c.self.view_is, rw (← c.self.view_is) at c.requires.moving) (gained (commits g c))

pub returns-clause-moved : goal.returns-clause-moved
returns-clause-moved g c = rw (← c.self.view_is, rw (← c.self.view_is) at c.requires.moving) (words_moved (commits g c))

pub returns-clause-words : goal.returns-clause-words
returns-clause-words g c =
    rw (← c.self.view_is, rw (← c.self.view_is) at c.requires.moving) (words_others (commits g c))
