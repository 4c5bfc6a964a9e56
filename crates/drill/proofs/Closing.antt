-- What is known once the pages are closed: each processor's touches are the first ones of its work, and the total is
-- right.
pub use Rattle.drill.proofs.Bindings.{All, AreAdds, AreDone, AreFirstOf, Binding, Bool, Bound, Holder, IsKeeperOf, IsLeftAfterAll, IsOfOneThread, KeeperModel, List, MOST_CPUS, Made, PagesModel, PassModel, TookZeros, Touch, [], add_at, added, adds_all, adds_reverse, all_bindings, all_sums, ap, arith, bindings_sum, cond, cpus_sum, current, deed, done, done_adds, ended_bindings, ended_sum, eqb, false, first_word, first_words, get_or, get_or-append-add, get_or-replicate, get_or_append_left, in_order, last_bindings, last_range, last_sum, length, length-append, length-replicate, length-reverse, made_by, made_count, map, map-append, mine, missing, page_given, pages_after, range_sum, refl, replicate, reverse, reverse-append, same_few, subst, suc, sum, sums_of, sym, take, take-append-le, take_all, taking_all_in, true, weigh, weigh_of, weigh_reverse, words_few, words_left, words_to, work_of, zero, ℕ, ◌%◌, ◌&&◌, ◌++◌, ◌+◌, ◌<◌, ◌^◌, ◌∙◌, ◌∷◌, ◌≡◌, ◌≢◌, ◌≤◌}
use Rattle.drill.proofs.Parts.{IsWorkTo, count_all, last_same, made_by_all, made_missing, parts_sum, parts_work, same_ended, touches_at}
use mathlib.Core.Logic.{dite}
use native.Mathlib.Decide.{ℕ_discrete}

reverse_deeds : (es : List Made) → map deed (reverse es) ≡ reverse (map deed es)
reverse_deeds [] = refl
reverse_deeds (e ∷ es) = ap (λ (l : List Made). map deed l) (reverse-append (e ∷ []) es)
    ∙ map-append deed (reverse es) (e ∷ []) ∙ ap (λ (l : List (ℕ × Touch)). l ++ deed e ∷ []) (reverse_deeds es)
    ∙ sym (reverse-append (deed e ∷ []) (map deed es))

reverse_done : (frames x n : ℕ) → reverse (done frames x n) ≡ work_of frames x n
reverse_done frames x zero = refl
reverse_done frames x (suc n) = reverse-append (add_at frames x n ∷ []) (done frames x n)
    ∙ ap (λ (l : List (ℕ × Touch)). l ++ add_at frames x n ∷ []) (reverse_done frames x n)

work_count : (frames x n : ℕ) → length (work_of frames x n) ≡ n
work_count frames x zero = refl
work_count frames x (suc n) =
    omega (arith, length-append (work_of frames x n) (add_at frames x n ∷ []), work_count frames x n)

work_take : (frames x k n : ℕ) → k ≤ n → take k (work_of frames x n) ≡ work_of frames x k
work_take frames x k zero le = let e : k ≡ 0 = omega arith in ap (λ m. take m (work_of frames x 0)) e
    ∙ ap (work_of frames x) (sym e)
work_take frames x k (suc n) le =
    let count = work_count frames x n in
    dite (ℕ_discrete k (suc n)) (λ (here : k ≡ suc n).
    let all = work_count frames x (suc n) in
    take_all k (work_of frames x (suc n)) (omega (arith, all)) ∙ ap (work_of frames x) (sym here))
    (λ (other : k ≢ suc n). take-append-le k (work_of frames x n) (add_at frames x n ∷ []) (omega (arith, count))
    ∙ work_take frames x k n (omega arith))

-- the touches of a pass, in order, are the first ones of its processor's work
first_of_work : (pages : PagesModel) (seed adds cpu : ℕ) (made : List Made) → IsWorkTo pages seed adds cpu made
    → AreFirstOf (work_of pages.frames (seed + cpu) adds) (reverse made)
first_of_work pages seed adds cpu made ok =
    let x = seed + cpu in
    reverse_deeds made ∙ ap (λ (l : List (ℕ × Touch)). reverse l) ok.deeds
    ∙ reverse_done pages.frames x (length made) ∙ sym (work_take pages.frames x (length made) adds ok.few)
    ∙ ap (λ n. take n (work_of pages.frames x adds)) (sym (length-reverse made))

zeros_if : (t : Bool) (x y : List ℕ) → x ≡ replicate 1024 0 → y ≡ replicate 1024 0 → cond t x y ≡ replicate 1024 0
zeros_if true x y p q = p
zeros_if false x y p q = q

-- each binding was given a page of zeros
given_zeros : (bs : List Bound) (f b : ℕ) → TookZeros bs → page_given bs f b ≡ replicate 1024 0
given_zeros [] f b ok = refl
given_zeros (x ∷ xs) f b ok = zeros_if (eqb f x.frame && eqb b (x.binding + 1)) x.next (page_given xs f b) ok.1
    (given_zeros xs f b ok.0)

all_front : {X : Type 0} (P : X → Type 0) (xs ys : List X) → All P (xs ++ ys) → All P xs
all_front P xs ys all i d lt = subst P (get_or_append_left xs ys d i lt) (all i d (omega (arith, length-append xs ys)))

all_back : {X : Type 0} (P : X → Type 0) (xs ys : List X) → All P (xs ++ ys) → All P ys
all_back P xs ys all i d lt = subst P (get_or-append-add xs ys i d)
    (all (length xs + i) d (let l = length-append xs ys in omega (arith, l)))

all_one : {X : Type 0} (P : X → Type 0) (x : X) → All P (x ∷ []) → P x
all_one P x all = all 0 x (omega arith)

-- what is known of a close
pub record AtClose (pages : PagesModel) (seed adds : ℕ) (ps : List PassModel) (keeper : KeeperModel) (shown : Holder)
    (left : List (List ℕ)) : Type 0 where
  pub taken : shown ≡ taking_all_in ps keeper.holder
  pub kept : IsKeeperOf pages keeper
  pub zeros : TookZeros keeper.holder.ended
  pub done : AreDone pages seed adds 0 ps
  pub all : length ps ≡ pages.cpus
  pub some : 0 < pages.frames
  pub few : (pages.cpus ≤ MOST_CPUS) × (adds ≤ 10000)
  pub count : length left ≡ pages.frames
  pub one_thread : IsOfOneThread pages.cpus shown
  pub after : All (IsLeftAfterAll shown) (all_bindings left shown)

module _ (pages : PagesModel) (seed adds : ℕ) (ps : List PassModel) (keeper : KeeperModel) (shown : Holder)
    (left : List (List ℕ)) (end : AtClose pages seed adds ps keeper shown left) where
  -- the touches of each processor
  own_work : (c : ℕ) → c < pages.cpus → IsWorkTo pages seed adds c (touches_at ps keeper.holder c)
  own_work c below =
      let all = end.all in
      let parts = end.kept.parts in
      parts_work pages seed adds ps 0 keeper.holder end.done (omega arith) c (omega arith) (omega arith)

  made_is : (c : ℕ) → made_by c shown ≡ reverse (touches_at ps keeper.holder c)
  made_is c = ap (λ k. made_by c k) end.taken

  pub front : (c : ℕ) → c < pages.cpus → AreFirstOf (work_of pages.frames (seed + c) adds) (made_by c shown)
  front c below = subst (AreFirstOf (work_of pages.frames (seed + c) adds)) (sym (made_is c))
      (first_of_work pages seed adds c (touches_at ps keeper.holder c) (own_work c below))

  mine_is : (c : ℕ) → c < pages.cpus → mine c (in_order shown) ≡ reverse (touches_at ps keeper.holder c)
  mine_is c below = sym (end.one_thread.own c below) ∙ made_is c

  all_adds : AreAdds pages.frames (in_order shown)
  all_adds = adds_all pages.cpus pages.frames shown.watch
      (in_order shown) end.one_thread.bindings (λ c below. subst (AreAdds pages.frames) (sym (mine_is c below))
      (adds_reverse pages.frames (touches_at ps keeper.holder c) (done_adds pages.frames (seed + c)
      (length (touches_at ps keeper.holder c)) (touches_at ps keeper.holder c) end.some (own_work c below).deeds)))

  pub ended_is : shown.ended ≡ keeper.holder.ended
  ended_is = ap (λ k. k.ended) end.taken ∙ same_ended ps keeper.holder

  given_is : (f b : ℕ) → page_given shown.ended f b ≡ replicate 1024 0
  given_is f b = given_zeros shown.ended f b (subst TookZeros (sym ended_is) end.zeros)

  -- the first word of a page is the sum of what was added to it
  word_left : (f b : ℕ) (page : List ℕ) → page ≡ pages_after shown f b → get_or page 0 0
      ≡ weigh_of (in_order shown) f b % 2 ^ 36
  word_left f b page is =
      let row : List ℕ = replicate 1024 0 in
      let given : page_given shown.ended f b ≡ row = given_is f b in
      let size : length (page_given shown.ended f b) ≡ 1024 = ap (λ (l : List ℕ). length l) given
      ∙ length-replicate {A = ℕ} 1024 0 in
      let first : get_or (page_given shown.ended f b) 0 0 ≡ 0 = ap (λ (l : List ℕ). get_or l 0 0) given
      ∙ get_or-replicate 1024 0 0 0 (omega arith) in
      let word = first_word pages.frames (in_order shown) (page_given shown.ended) f b all_adds size
      (omega (arith, first)) in
      let at : get_or page 0 0 ≡ get_or (pages_after shown f b) 0 0 = ap (λ (l : List ℕ). get_or l 0 0) is in
      omega (arith, word, at, first)

  ended_words : (bs : List Bound) → All (IsLeftAfterAll shown) (ended_bindings (page_given shown.ended) bs)
      → words_left bs % 2 ^ 36 ≡ ended_sum (weigh_of (in_order shown)) bs % 2 ^ 36
  ended_words [] all = refl
  ended_words (b ∷ bs) all =
      let one : Binding = record {
        frame = b.frame;
        number = b.binding;
        given = page_given shown.ended b.frame b.binding;
        left = b.left;
      } in
      let before : List Binding = ended_bindings (page_given shown.ended) bs in
      let rest = ended_words bs (all_front (IsLeftAfterAll shown) before (one ∷ []) all) in
      let is = all_one (IsLeftAfterAll shown) one (all_back (IsLeftAfterAll shown) before (one ∷ []) all) in
      let word = word_left b.frame b.binding b.left is in
      omega (arith, rest, word)

  last_words : (n : ℕ) → All (IsLeftAfterAll shown) (last_bindings n left shown)
      → first_words n left % 2 ^ 36 ≡ last_sum (λ f. weigh_of (in_order shown) f (current shown.watch f)) n % 2 ^ 36
  last_words zero all = refl
  last_words (suc f) all =
      let one : Binding = record {
        frame = f;
        number = current shown.watch f;
        given = page_given shown.ended f (current shown.watch f);
        left = get_or left f [];
      } in
      let before : List Binding = last_bindings f left shown in
      let rest = last_words f (all_front (IsLeftAfterAll shown) before (one ∷ []) all) in
      let is = all_one (IsLeftAfterAll shown) one (all_back (IsLeftAfterAll shown) before (one ∷ []) all) in
      let word = word_left f (current shown.watch f) (get_or left f []) is in
      omega (arith, rest, word)

  -- of a measure of touches that adds up: what the processors did is what their passes made
  made_all : (measure : List Made → ℕ) (share : Made → ℕ) → measure [] ≡ 0
      → ((e : Made) (es : List Made) → measure (e ∷ es) ≡ measure es + share e)
      → ((es : List Made) → measure (reverse es) ≡ measure es) → measure (in_order shown) ≡ made_by_all measure ps
  made_all measure share none more turned =
      let touched = cpus_sum measure share none more pages.cpus shown.watch (in_order shown) end.one_thread.bindings in
      let each = last_same (λ c. measure (mine c (in_order shown))) (λ c. measure (touches_at ps keeper.holder c))
      pages.cpus (λ c below. ap measure (mine_is c below) ∙ turned (touches_at ps keeper.holder c)) in
      let range = last_range (λ c. measure (touches_at ps keeper.holder c)) pages.cpus 0 in
      let at : 0 + pages.cpus ≡ pages.cpus = omega arith in
      let from = ap (last_sum (λ c. measure (touches_at ps keeper.holder c))) at in
      let count = ap (range_sum (λ c. measure (touches_at ps keeper.holder c)) 0) end.all in
      let made =
      parts_sum measure pages seed adds ps 0 keeper.holder end.done (omega (arith, end.all, end.kept.parts)) in
      omega (arith, touched, each, range, from, count, made, end.all, end.kept.parts)

  pub touches : made_count ps ≡ length (in_order shown)
  touches = sym (made_all (λ (es : List Made). length es) (λ e. 1) refl (λ e es. omega arith)
      (λ es. length-reverse es) ∙ count_all ps)

  pub total : (s u t : ℕ) → s ≡ words_left keeper.holder.ended % 2 ^ 36 → u ≡ missing adds ps % 2 ^ 36 → t ≡ ((s + u)
      % 2 ^ 36 + first_words (length left) left) % 2 ^ 36 → t ≡ sum (sums_of pages.frames adds seed pages.cpus)
  total s u t taken unmade is =
      let before : List Binding = ended_bindings (page_given shown.ended) shown.ended in
      let ended = ended_words shown.ended (all_front (IsLeftAfterAll shown) before
      (last_bindings (length left) left shown) end.after) in
      let last = last_words (length left) (all_back (IsLeftAfterAll shown) before
      (last_bindings (length left) left shown) end.after) in
      let frames = ap (last_sum (λ f. weigh_of (in_order shown) f (current shown.watch f))) end.count in
      let same = ap words_left ended_is in
      let bindings = bindings_sum pages.cpus pages.frames shown.watch (in_order shown) shown.ended
      end.one_thread.in_turn end.one_thread.last end.one_thread.bindings all_adds in
      let made = made_all weigh (λ e. added e.touch) refl (λ e es. refl) weigh_reverse in
      let missing = made_missing pages seed adds 0 ps end.done in
      let cpus = ap (last_sum (λ i. words_to adds)) end.all in
      let sums = all_sums pages.frames adds seed pages.cpus in
      let words = words_few adds in
      let few = same_few (words_to adds) pages.cpus (let m = end.few.1 in omega (arith, words, m)) in
      let most = end.few.0 in
      omega (arith, taken, unmade, is, ended, last, frames, same, bindings, made, missing, cpus, sums, few, most)
