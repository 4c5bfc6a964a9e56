-- Frames and page table words stay tied where a page is taken, given back or gone, is being read, or is there.
use Rattle.machine_model.proofs.Prelude.{◌≡◌, ◌≢◌, ℕ, true, Option, Some, None, refl, sym, ◌∙◌, Ptw, at_put, at_put_two, IsTied, names, is_out, page_of, frame_use, bound_use, page_is, Ptw as ptw, custody_bound_page as bound_page}
use Rattle.machine_model.proofs.Places.{by_place, by_places, put_other}

pub none_some : {A : Type 0} {x : A} → None ≡ Some x → ⊥
none_some h = cc

pub not_there : (f : ℕ) → None ≡ Some f → ⊥
not_there f h = cc

pub out_none : (w : Ptw) → is_out w ≡ true → names w ≡ None
out_none (ptw.Here f) h = cc
out_none (ptw.Leaving f) h = cc
out_none _ h = refl

out_names : (w : Ptw) (f : ℕ) → is_out w ≡ true → names w ≡ Some f → ⊥
out_names w f h n = none_some (sym (out_none w h) ∙ n)

-- a frame that is bound to a page is used for it, whatever its word is
pub page_used : (page : ℕ × ℕ) (w : Ptw) → page_of (bound_use page w) ≡ Some page
page_used page ptw.Null = refl
page_used page _ = refl

pub bound_used : (page : ℕ × ℕ) (w : Ptw) → bound_page (bound_use page w) ≡ Some page
bound_used page ptw.Null = refl
bound_used page _ = refl

module _ {bound reads : ℕ → Option (ℕ × ℕ)} {words : ℕ → ℕ → Ptw} (t : IsTied bound reads words) (f u p : ℕ) where
  -- the word of a page in a frame changes, and names the frame still
  pub tied_word : (w : Ptw) → names (words u p) ≡ Some f → names w ≡ Some f
      → IsTied bound reads (at_put_two words u p w)
  tied_word w was now = record {
    named = λ g v q h. by_places (λ (x : Ptw). names x ≡ Some g) words u p w v q
        (λ i j. (let its = t.named g v q h in cc)) (λ n. t.named g v q h);
    back = λ g v q. by_places (λ (x : Ptw). names x ≡ Some g → bound g ≡ Some (v, q)) words u p w v q
        (λ i j h. (let its = t.back f u p was in cc)) (λ n. t.back g v q);
    out = λ g v q h. by_places (λ (x : Ptw). is_out x ≡ true) words u p w v q
        (λ i j. absurd (out_names (words v q) f (t.out g v q h) (let same = was in cc))) (λ n. t.out g v q h);
    alone = t.alone;
    unbound = t.unbound;
  }

  -- a page leaves its frame
  pub tied_gone : (w : Ptw) → names (words u p) ≡ Some f → names w ≡ None
      → IsTied (at_put bound f None) reads (at_put_two words u p w)
  tied_gone w was now = record {
    named = λ g v q. by_place (λ (y : Option (ℕ × ℕ)). y ≡ Some (v, q) → names (at_put_two words u p w v q) ≡ Some g)
        bound f None g (λ i h. cc) (λ n h. by_places (λ (x : Ptw). names x ≡ Some g) words u p w v q
        (λ i j. absurd (n (let its = t.named g v q h in cc))) (λ m. t.named g v q h));
    back = λ g v q. by_places (λ (x : Ptw). names x ≡ Some g → at_put bound f None g ≡ Some (v, q)) words u p w v q
        (λ i j h. cc) (λ n h. by_place (λ (y : Option (ℕ × ℕ)). y ≡ Some (v, q)) bound f None g
        (λ i. absurd (let same = page_is v q u p (cc (t.back g v q h, t.back f u p was)) in
        n same.0 same.1)) (λ m. t.back g v q h));
    out = λ g v q h. by_places (λ (x : Ptw). is_out x ≡ true) words u p w v q
        (λ i j. absurd (out_names (words v q) f (t.out g v q h) (let same = was in cc))) (λ n. t.out g v q h);
    alone = t.alone;
    unbound = λ g v q h. by_place (λ (y : Option (ℕ × ℕ)). y ≡ None) bound f None g (λ i. refl)
        (λ n. t.unbound g v q h);
  }

  -- a page that is on its record alone is being read into a frame
  pub tied_start : bound f ≡ None → is_out (words u p) ≡ true → ((g : ℕ) → reads g ≢ Some (u, p))
      → IsTied bound (at_put reads f (Some (u, p))) words
  tied_start free out none = record {
    named = t.named;
    back = t.back;
    out = λ g v q. by_place (λ (y : Option (ℕ × ℕ)). y ≡ Some (v, q) → is_out (words v q) ≡ true) reads f (Some (u, p))
        g (λ i h. (let same = page_is u p v q h in let one = same.0 in let two = same.1 in let is = out in cc))
        (λ n h. t.out g v q h);
    alone = λ g h v q. by_place (λ (y : Option (ℕ × ℕ)). y ≡ Some (v, q) → at_put reads f (Some (u, p)) h ≡ Some (v, q)
        → g ≡ h) reads f (Some (u, p)) g
        (λ i a. by_place (λ (y : Option (ℕ × ℕ)). y ≡ Some (v, q) → g ≡ h) reads f (Some (u, p)) h (λ j b. i ∙ sym j)
        (λ m b. absurd (none h (b ∙ sym a))))
        (λ n a. by_place (λ (y : Option (ℕ × ℕ)). y ≡ Some (v, q) → g ≡ h) reads f (Some (u, p)) h
        (λ j b. absurd (none g (a ∙ sym b))) (λ m b. t.alone g h v q a b));
    unbound = λ g v q. by_place (λ (y : Option (ℕ × ℕ)). y ≡ Some (v, q) → bound g ≡ None) reads f (Some (u, p)) g
        (λ i h. cc) (λ n h. t.unbound g v q h);
  }

  -- it isn't any more
  pub tied_lost : IsTied bound (at_put reads f None) words
  tied_lost = record {
    named = t.named;
    back = t.back;
    out = λ g v q. by_place (λ (y : Option (ℕ × ℕ)). y ≡ Some (v, q) → is_out (words v q) ≡ true) reads f None g
        (λ i h. cc) (λ n h. t.out g v q h);
    alone = λ g h v q. by_place (λ (y : Option (ℕ × ℕ)). y ≡ Some (v, q) → at_put reads f None h ≡ Some (v, q) → g ≡ h)
        reads f None g (λ i a. cc) (λ n a. by_place (λ (y : Option (ℕ × ℕ)). y ≡ Some (v, q) → g ≡ h) reads f None h
        (λ j b. cc) (λ m b. t.alone g h v q a b));
    unbound = λ g v q. by_place (λ (y : Option (ℕ × ℕ)). y ≡ Some (v, q) → bound g ≡ None) reads f None g
        (λ i h. cc) (λ n h. t.unbound g v q h);
  }

  -- a page that was in no frame is in one
  pub tied_here : bound f ≡ None → names (words u p) ≡ None → ((g : ℕ) → g ≢ f → reads g ≢ Some (u, p))
      → IsTied (at_put bound f (Some (u, p))) (at_put reads f None) (at_put_two words u p (ptw.Here f))
  tied_here free none others = record {
    named = λ g v q. by_place (λ (y : Option (ℕ × ℕ)). y ≡ Some (v, q)
        → names (at_put_two words u p (ptw.Here f) v q) ≡ Some g) bound f (Some (u, p)) g
        (λ i h. by_places (λ (x : Ptw). names x ≡ Some g) words u p (ptw.Here f) v q (λ a b. cc)
        (λ n. absurd (let same = page_is u p v q h in n (sym same.0) (sym same.1))))
        (λ n h. by_places (λ (x : Ptw). names x ≡ Some g) words u p (ptw.Here f) v q
        (λ a b. absurd (not_there g (let its = t.named g v q h in let is = none in cc))) (λ m. t.named g v q h));
    back = λ g v q. by_places (λ (x : Ptw). names x ≡ Some g → at_put bound f (Some (u, p)) g ≡ Some (v, q)) words u p
        (ptw.Here f) v q (λ a b h. by_place (λ (y : Option (ℕ × ℕ)). y ≡ Some (v, q)) bound f (Some (u, p)) g (λ i. cc)
        (λ n. absurd (n (cc)))) (λ n h. by_place (λ (y : Option (ℕ × ℕ)). y ≡ Some (v, q)) bound f (Some (u, p)) g
        (λ i. cc (t.back g v q h)) (λ m. t.back g v q h));
    out = λ g v q. by_place (λ (y : Option (ℕ × ℕ)). y ≡ Some (v, q)
        → is_out (at_put_two words u p (ptw.Here f) v q) ≡ true) reads f None g (λ i h. cc)
        (λ n h. by_places (λ (x : Ptw). is_out x ≡ true) words u p (ptw.Here f) v q (λ a b. absurd (others g n (cc)))
        (λ m. t.out g v q h));
    alone = (tied_lost).alone;
    unbound = λ g v q. by_place (λ (y : Option (ℕ × ℕ)). y ≡ Some (v, q) → at_put bound f (Some (u, p)) g ≡ None) reads
        f None g (λ i h. cc) (λ n h. put_other bound f (Some (u, p)) g n ∙ t.unbound g v q h);
  }

  -- ---- what frames are used for

  -- a frame that is bound to a page, by the word of that
  pub use_bound : {w : Ptw} → bound f ≡ Some (u, p) → words u p ≡ w
      → frame_use words (bound f) (reads f) ≡ bound_use (u, p) w
  use_bound is word = cc

  -- a frame is used as before where the word of a page changes that isn't the frame's
  use_elsewhere : (w : Ptw) (g : ℕ) → ((v q : ℕ) → bound g ≡ Some (v, q) → v ≡ u → q ≡ p → ⊥)
      → frame_use (at_put_two words u p w) (bound g) (reads g) ≡ frame_use words (bound g) (reads g)
  use_elsewhere w g apart = by (bound g) refl
    where
      by : (x : Option (ℕ × ℕ)) → bound g ≡ x
          → frame_use (at_put_two words u p w) x (reads g) ≡ frame_use words x (reads g)
      by None e = refl
      by (Some page) e = by_places (λ (x : Ptw). bound_use page x ≡ bound_use page (words page.0 page.1)) words u p w
          page.0 page.1 (λ i j. absurd (apart page.0 page.1 e i j)) (λ m. refl)

  -- every other frame is used as before where the word of the page in a frame changes
  pub other_use : (w : Ptw) → names (words u p) ≡ Some f → (g : ℕ) → g ≢ f
      → frame_use (at_put_two words u p w) (bound g) (reads g) ≡ frame_use words (bound g) (reads g)
  other_use w was g n = use_elsewhere w g (λ v q e i j. n (let its = t.named g v q e in cc))

  -- the same where a page comes into a frame
  pub other_use_here : (w : Ptw) → names (words u p) ≡ None → (g : ℕ)
      → frame_use (at_put_two words u p w) (bound g) (reads g) ≡ frame_use words (bound g) (reads g)
  other_use_here w none g = use_elsewhere w g (λ v q e i j. not_there g
      (let its = t.named g v q e in let is = none in cc))
