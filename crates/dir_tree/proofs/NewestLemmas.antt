-- The nodes of some entries, the newest first.
use Rattle.dir_tree.proofs.Prelude.{◌≡◌, ◌≢◌, ℕ, suc, zero, ◌<◌, Bool, true, false, List, [], ◌∷◌, ◌++◌, length, map, Some, None, refl, sym, ◌∙◌, arith, inl, find, filter, remove, length_push, map-append, append-nil, filter-append, Node, Entry, node_at, entry_at, newest, IsMember, found_front, past_front, member_left, member_right}

-- the node of the i-th entry
abbrev pub node_of_entry : List Node → List Entry → ℕ → Node
node_of_entry ns es i = node_at ns (entry_at es i).place

pub none_newest : (p : Node → Bool) (ns : List Node) (es : List Entry)
    → ((j : ℕ) → j < length es → p (node_of_entry ns es j) ≡ false) → find p (newest ns es) ≡ None
none_newest p ns [] all = refl
none_newest p ns (e ∷ es) all =
    let none = none_newest p ns es (λ j lt. all (suc j) (omega arith)) in
    past_front p (newest ns es) (node_at ns e.place ∷ []) none ∙ rw (all 0 (omega arith)) refl

pub find_newest : (p : Node → Bool) (ns : List Node) (es : List Entry) (i : ℕ) → i < length es
    → p (node_of_entry ns es i) ≡ true
    → ((j : ℕ) → j < length es → j ≢ i → p (node_of_entry ns es j) ≡ false) → find p (newest ns es)
    ≡ Some (node_of_entry ns es i)
find_newest p ns [] i lt is others = absurd (omega arith)
find_newest p ns (e ∷ es) zero lt is others =
    let none = none_newest p ns es (λ j lt_j. others (suc j) (omega arith) (λ q. omega arith)) in
    past_front p (newest ns es) (node_at ns e.place ∷ []) none ∙ rw is refl
find_newest p ns (e ∷ es) (suc i) lt is others = found_front p (newest ns es) (node_at ns e.place ∷ []) _
    (find_newest p ns es i (omega arith) is (λ j lt_j ne. others (suc j) (omega arith) (λ q. ne (omega arith))))

pub member_newest : (ns : List Node) (es : List Entry) (i : ℕ) → i < length es
    → IsMember (node_of_entry ns es i) (newest ns es)
member_newest ns [] i lt = absurd (omega arith)
member_newest ns (e ∷ es) zero lt = member_right _ (newest ns es) (node_at ns e.place ∷ []) (inl refl)
member_newest ns (e ∷ es) (suc i) lt = member_left _ (newest ns es) (node_at ns e.place ∷ [])
    (member_newest ns es i (omega arith))

pub newest_same : (ms ns : List Node) (es : List Entry)
    → ((j : ℕ) → j < length es → node_of_entry ms es j ≡ node_of_entry ns es j) → newest ms es ≡ newest ns es
newest_same ms ns [] same = refl
newest_same ms ns (e ∷ es) same =
    rw (newest_same ms ns es (λ j lt. same (suc j) (omega arith)), same 0 (omega arith)) refl

pub newest_push : (ns : List Node) (es : List Entry) (e : Entry) → newest ns (es ++ e ∷ []) ≡ node_at ns e.place
    ∷ newest ns es
newest_push ns [] e = refl
newest_push ns (d ∷ es) e = rw (newest_push ns es e) refl

pub length_newest : (ns : List Node) (es : List Entry) → length (newest ns es) ≡ length es
length_newest ns [] = refl
length_newest ns (e ∷ es) = rw (length_push, length_newest ns es) (omega arith)

pub newest_changed : (ms ns : List Node) (es : List Entry) (h : Node → Node)
    → ((j : ℕ) → j < length es → node_of_entry ms es j ≡ h (node_of_entry ns es j))
    → newest ms es ≡ map h (newest ns es)
newest_changed ms ns [] h same = refl
newest_changed ms ns (e ∷ es) h same =
    rw (newest_changed ms ns es h (λ j lt. same (suc j) (omega arith)), same 0 (omega arith))
    (sym (map-append h (newest ns es) (node_at ns e.place ∷ [])))

all_kept : (p : Node → Bool) (ns : List Node) (es : List Entry)
    → ((j : ℕ) → j < length es → p (node_of_entry ns es j) ≡ true) → filter p (newest ns es) ≡ newest ns es
all_kept p ns [] all = refl
all_kept p ns (e ∷ es) all =
    rw (
      filter-append p (newest ns es) (node_at ns e.place ∷ []),
      all_kept p ns es (λ j lt. all (suc j) (omega arith)),
      all 0 (omega arith),
    ) refl

-- without the one entry whose node fails the test, the other nodes are left
pub newest_remove : (p : Node → Bool) (ns : List Node) (es : List Entry) (i : ℕ) → i < length es
    → p (node_of_entry ns es i) ≡ false
    → ((j : ℕ) → j < length es → j ≢ i → p (node_of_entry ns es j) ≡ true) → newest ns (remove es i)
    ≡ filter p (newest ns es)
newest_remove p ns [] i lt isnt others = absurd (omega arith)
newest_remove p ns (e ∷ es) zero lt isnt others =
    let kept = all_kept p ns es (λ j lt_j. others (suc j) (omega arith) (λ q. omega arith)) in
    rw (filter-append p (newest ns es) (node_at ns e.place ∷ []), kept, isnt) (sym (append-nil (newest ns es)))
newest_remove p ns (e ∷ es) (suc i) lt isnt others =
    let here : p (node_at ns e.place) ≡ true = others 0 (omega arith) (λ q. omega arith) in
    let ih : newest ns (remove es i) ≡ filter p (newest ns es) =
    newest_remove p ns es i (omega arith) isnt (λ j lt_j ne. others (suc j) (omega arith) (λ q. ne (omega arith))) in
    rw (filter-append p (newest ns es) (node_at ns e.place ∷ []), here) (cc)
