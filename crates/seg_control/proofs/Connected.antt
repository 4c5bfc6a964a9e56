-- Descriptors, trailers and known segment tables after one descriptor or number has changed.
use Rattle.seg_control.proofs.Prelude.{AreLinked, Contains, Entry, Fault, HasOneNumberEach, IsKnownAt, IsSome, Links, List, Mode, None, Option, Present, Sdw, Some, [], arith, cases_lt, count_by, get_or, get_or-set_other, get_or-set_same, get_or_past, inl, inr, kst_at, leads, leads_at, leads_to, length, length-remove, length-set, length_push, linked, none-some, place_in, position-Some, position_there, refl, remove, same_Some, sdw_at, sdws_at, set, shown_within, some_number, sym, times, trailers_of, uid_at, uid_in, uid_of, unlinked, with_kst, without_number, without_trailer, ℕ, ◌++◌, ◌+◌, ◌<◌, ◌∙◌, ◌∷◌, ◌≡◌, ◌≢◌}
pub use Rattle.seg_control.proofs.Linked.{count_push, count_remove, count_some, count_two, each_set, leads_other, leads_this, leads_to_is, leads_to_itself, leads_to_not, leads_within, most_trailers, pair_cases, times_other, times_same, trailer_leads, weight, words_kept}

-- a number that is known is one of 256
number_within : (links : Links) (process number uid : ℕ) → length (kst_at links.known process) ≡ 256
    → uid_of (kst_at links.known process) number ≡ Some uid → number < 256
number_within links process number uid size known_as = rw size at (shown_within (λ (known : Option ℕ). known)
    (kst_at links.known process) number None uid refl known_as)

-- ---- the word of a descriptor becomes another, and the trailers of a place another list

abbrev relinked : Links → ℕ → ℕ → Sdw → ℕ → List (ℕ × ℕ) → Links
relinked links process number w place list = record links {
  trailers = set links.trailers place list;
  descriptors = set links.descriptors process (set (sdws_at links.descriptors process) number w);
}

record Relinks (entries : List (Option Entry)) (links : Links) (process number : ℕ) (w : Sdw) (place : ℕ)
    (list : List (ℕ × ℕ)) : Type 0 where
  process_within : process < length links.descriptors
  number_within : number < length (sdws_at links.descriptors process)
  place_within : place < length links.trailers
  -- the list has this descriptor as often as its new word leads there, and each other as before
  this : count_by (leads_to process number) list ≡ times (leads w) place
  others : (q n : ℕ) → (q ≡ process → n ≢ number)
      → count_by (leads_to q n) list ≡ count_by (leads_to q n) (trailers_of links.trailers place)
  -- to another place it leads as before
  there : (pl : ℕ) → pl ≢ place → times (leads_at links.descriptors process number) pl ≡ times (leads w) pl
  known : (pl : ℕ) → leads w ≡ Some pl → IsKnownAt entries links.known process number pl

linked_after : {entries : List (Option Entry)} {links : Links} {process number : ℕ} {w : Sdw} {place : ℕ}
    {list : List (ℕ × ℕ)} → AreLinked entries links → Relinks entries links process number w place list
    → AreLinked entries (relinked links process number w place list)
linked_after {links} {process} {number} {w} {place} {list} k r =
    let this = leads_this links.descriptors process number w r.process_within r.number_within in
    let other = leads_other links.descriptors process number w r.process_within r.number_within in
    record {
      exact = λ pl q n. elim (pair_cases q n process number) [
        | inl same ↦ rw (same.0, same.1, this) (each_set links.trailers list [] (λ p those.
            count_by (leads_to process number) those ≡ times (leads w) p) r.place_within r.this
            (λ p ne. k.exact p process number ∙ r.there p ne) pl)
        | inr ne ↦ rw (other q n ne) (each_set links.trailers list [] (λ p those.
            count_by (leads_to q n) those ≡ times (leads_at links.descriptors q n) p) r.place_within
            (r.others q n ne ∙ k.exact place q n) (λ p _. k.exact p q n) pl)
      ];
      known = λ q n pl e. elim (pair_cases q n process number) [
        | inl same ↦ rw (same.0, same.1) (r.known pl (rw (same.0, same.1, this) at e))
        | inr ne ↦ k.known q n pl (rw (other q n ne) at e)
      ];
      each = k.each;
      lists = record {
        places = cc (length-set links.trailers place list);
        processes = cc (length-set links.descriptors process (set (sdws_at links.descriptors process) number w));
        few = k.lists.few;
        numbers = k.lists.numbers;
        words = λ q lt. words_kept links.descriptors process number w r.process_within r.number_within q
            ∙ k.lists.words q lt;
      };
    }

-- ---- a descriptor is connected

-- the segment of a place is active, the number of a process stands for it, and its descriptor leads nowhere yet
pub record MayConnect (entries : List (Option Entry)) (links : Links) (process number place : ℕ) : Type 0 where
  pub uid : ℕ
  pub process_within : process < length links.known
  pub place_within : place < length links.trailers
  pub active : uid_at entries place ≡ Some uid
  pub known_as : uid_of (kst_at links.known process) number ≡ Some uid
  pub cut : leads_at links.descriptors process number ≡ None

pub may_connect : {entries : List (Option Entry)} {links : Links} (process number place : ℕ) → AreLinked entries links
    → IsSome (uid_at entries place) → process < length links.known → uid_of (kst_at links.known process) number ≡ uid_at
    entries place → leads_at links.descriptors process number ≡ None → MayConnect entries links process number place
may_connect {entries} {links} process number place linked active within known cut =
    let uid = some_number (uid_at entries place) active in
    let same = linked.lists.places in
    let lt = shown_within uid_in entries place None uid.0 refl uid.1 in
    record {
      uid = uid.0;
      process_within = within;
      place_within = omega arith;
      active = uid.1;
      known_as = cc;
      cut = cut;
    }

module _ {entries : List (Option Entry)} {links : Links} {process number place : ℕ} (mode : Mode) (pages : ℕ)
    (k : AreLinked entries links) (m : MayConnect entries links process number place) where
  -- its number is one of 256
  pub connected_number : number < 256
  connected_number = number_within links process number m.uid (k.lists.numbers process m.process_within) m.known_as

  in_descriptors : process < length links.descriptors
  in_descriptors = rw k.lists.processes m.process_within

  in_words : number < length (sdws_at links.descriptors process)
  in_words = rw (k.lists.words process m.process_within) connected_number

  pub linked_connected : AreLinked entries (linked links process number place mode pages)
  linked_connected =
      let push = λ (q n : ℕ). count_push (leads_to q n) (trailers_of links.trailers place) (process, number) in
      linked_after k (record {
        process_within = in_descriptors;
        number_within = in_words;
        place_within = m.place_within;
        this = rw
            (push process number, leads_to_itself process number, k.exact place process number, m.cut, times_same place)
            refl;
        others = λ q n ne. rw (push q n, leads_to_not q n (process, number) ne) (omega arith);
        there = λ pl ne. rw (m.cut, times_other place pl ne) refl;
        known = λ pl e. rw (← same_Some _ _ e) (record { uid = m.uid; active = m.active; known_as = m.known_as });
      })

  -- what other numbers lead to stays
  pub others_connected : (q n : ℕ) → (q ≡ process → n ≢ number)
      → leads_at (linked links process number place mode pages).descriptors q n ≡ leads_at links.descriptors q n
  others_connected = leads_other links.descriptors process number (Present place mode pages) in_descriptors in_words

  -- there was room for one more trailer
  pub room : length (trailers_of links.trailers place) < 32
  room =
      let most = rw (
        get_or-set_same links.trailers place (trailers_of links.trailers place ++ (process, number) ∷ [])
            [] m.place_within,
        length_push (trailers_of links.trailers place) (process, number),
      ) at (most_trailers place linked_connected) in
      omega arith

-- ---- a descriptor is cut

-- what a descriptor that was read leads to
pub leading : (descriptors : List (List Sdw)) (process number : ℕ) (words : List Sdw) (word : Sdw) → word
    ≡ sdw_at words number → words ≡ sdws_at descriptors process → leads_at descriptors process number ≡ leads word
leading descriptors process number words word is read = rw (is, read)

module _ {entries : List (Option Entry)} {links : Links} (process number : ℕ) {place : ℕ} (k : AreLinked entries links)
    (leading : leads_at links.descriptors process number ≡ Some place) where
  cut_in_descriptors : process < length links.descriptors
  cut_in_descriptors = leads_within links.descriptors process number place leading

  cut_process : process < length links.known
  cut_process = rw (← k.lists.processes) cut_in_descriptors

  cut_in_words : number < length (sdws_at links.descriptors process)
  cut_in_words = shown_within leads (sdws_at links.descriptors process) number Fault place refl leading

  pub cut_number : number < 256
  cut_number = rw (k.lists.words process cut_process) at cut_in_words

  -- it is counted once among the trailers of the place
  cut_once : count_by (leads_to process number) (trailers_of links.trailers place) ≡ 1
  cut_once = rw (k.exact place process number, leading, times_same place) refl

  pub cut_place : place < length links.trailers
  cut_place = elim (cases_lt place (length links.trailers)) [
    | inl lt ↦ lt
    | inr past ↦ absurd (let none = rw (get_or_past links.trailers place [] past) at cut_once in omega arith)
  ]

  -- its trailer
  trailer : (i : ℕ) × (i < length (trailers_of links.trailers place))
      × (get_or (trailers_of links.trailers place) i (process, number) ≡ (process, number)) × (without_trailer
      (trailers_of links.trailers place) process number ≡ remove (trailers_of links.trailers place) i)
  trailer =
      let xs : List (ℕ × ℕ) = trailers_of links.trailers place in
      let found = count_some (leads_to process number) xs (process, number) (omega (arith, cut_once)) in
      let at = some_number (place_in xs process number)
      (position_there (leads_to process number) xs found.0 (process, number) found.1 found.2) in
      let here = position-Some (leads_to process number) xs at.0 (process, number) at.1 in
      let is = leads_to_is process number (get_or xs at.0 (process, number)) here.1 in
      (at.0, here.0, (λ i. (is.0 i, is.1 i)), cc)

  pub cut_there : Contains (trailers_of links.trailers place) (process, number)
  cut_there = (trailer.0, trailer.1, trailer.2)

  -- how the list counts after it is taken out
  counted_less : (q n : ℕ) → count_by (leads_to q n) (without_trailer (trailers_of links.trailers place) process number)
      + weight (leads_to q n (process, number)) ≡ count_by (leads_to q n) (trailers_of links.trailers place)
  counted_less q n = rw trailer.3 (rw trailer.2 at (count_remove (leads_to q n) (trailers_of links.trailers place)
      trailer.0 (process, number) trailer.1))

  -- the list is shorter then
  pub without_shorter : length (trailers_of (unlinked links process number (Some place)).trailers place)
      < length (trailers_of links.trailers place)
  without_shorter = rw (
    get_or-set_same links.trailers place (without_trailer (trailers_of links.trailers place)
        process number) [] cut_place,
    trailer.3,
  ) (let lt = trailer.1 in omega (arith, length-remove (trailers_of links.trailers place) trailer.0 lt))

  pub linked_cut : AreLinked entries (unlinked links process number (Some place))
  linked_cut = linked_after k (record {
    process_within = cut_in_descriptors;
    number_within = cut_in_words;
    place_within = cut_place;
    this = (let one = rw (leads_to_itself process number, cut_once) at (counted_less process number) in omega arith);
    others = λ q n ne. (let same = rw (leads_to_not q n (process, number) ne) at (counted_less q n) in omega arith);
    there = λ pl ne. rw (leading, times_other place pl ne) refl;
    known = λ pl e. cc;
  })

-- ---- a known segment table changes

module _ {entries : List (Option Entry)} {links : Links} (process : ℕ) (kst : List (Option ℕ))
    (k : AreLinked entries links) (within : process < length links.known) (once : HasOneNumberEach kst)
    (size : length kst ≡ 256) (kept : (n v place : ℕ) → leads_at links.descriptors process n ≡ Some place
    → uid_of (kst_at links.known process) n ≡ Some v → uid_of kst n ≡ Some v) where
  pub linked_known : AreLinked entries (with_kst links process kst)
  linked_known =
      let long = length-set links.known process kst in
      record {
        exact = k.exact;
        known = λ q n pl e. (let was : IsKnownAt entries links.known q n pl = k.known q n pl e in
            record {
              uid = was.uid;
              active = was.active;
              known_as = each_set links.known kst [] (λ p those. leads_at links.descriptors p n ≡ Some pl
                  → uid_of (kst_at links.known p) n ≡ Some was.uid → uid_of those n ≡ Some was.uid) within
                  (kept n was.uid pl) (λ p ne at known. known) q e was.known_as;
            });
        each = each_set links.known kst [] (λ _ those. HasOneNumberEach those) within once (λ q ne. k.each q);
        lists = record {
          places = k.lists.places;
          processes = cc;
          few = rw long k.lists.few;
          numbers = λ q lt. each_set links.known kst [] (λ p those. p < length links.known → length those ≡ 256) within
              (λ _. size) (λ p ne. k.lists.numbers p) q (rw long at lt);
          words = λ q lt. k.lists.words q (rw long at lt);
        };
      }

pub size_without : (kst : List (Option ℕ)) (number : ℕ) → length (without_number kst number) ≡ length kst
size_without kst number = length-set kst number None

-- a number that is connected is another than one that isn't
pub known_without : (links : Links) (process number n v place : ℕ) → leads_at links.descriptors process number ≡ None
    → leads_at links.descriptors process n ≡ Some place → uid_of (kst_at links.known process) n ≡ Some v
    → uid_of (without_number (kst_at links.known process) number) n ≡ Some v
known_without links process number n v place cut e known =
    rw (get_or-set_other (kst_at links.known process) number n None None
    (λ same. none-some place (sym cut ∙ rw same at e))) known
