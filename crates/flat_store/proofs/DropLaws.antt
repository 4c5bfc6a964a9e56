-- Holdings as a function has them inside, and pages that aren't stored.
use Rattle.std.proofs.lemmas.Grind.{common_steps}
use Rattle.flat_store.proofs.Prelude.{nat_tests, ◌≡◌, ◌<◌, ℕ, ◌+◌, ◌*◌, ◌/◌, Bool, false, not, eqb, leb, ltb, ◌&&◌, List, get_or, Some, is_some, sym, ap, subst, ◌∙◌, arith, Plan, Node, without_pages, Words, is_stored, without_stored, Store, is_stored-without, IsBlank, all_between, none_missing, ShowsTree, Paged, page_at, pages_in, Held, HoldPages, Holds, AreInside, and_right}

-- the same holdings, as a function has them inside
pub held_inside : {p : Plan} {s : Store} {inside now : Held} → inside ≡ now → Holds p now s → Holds p inside s
held_inside is h = rw is h

-- the tree with its accounts, as holdings have it inside
pub tree_inside : {p : Plan} {s : Store} {inside now : Held} → inside ≡ now → Holds p now s
    → ShowsTree s inside.accounts
tree_inside is h = let holds = held_inside is h in assumption

-- where no page is stored each word is 0
pub no_word : {pages : Paged} {words : Words} {stored : List (ℕ × ℕ)} → HoldPages pages words stored → (u o : ℕ)
    → is_some (page_at pages u (o / 1024)) ≡ false → words u o ≡ 0
no_word {pages} h u o off = grind (arith, nat_tests, common_steps)

-- the words of a stored page
pub word_at : {pages : Paged} {words : Words} {stored : List (ℕ × ℕ)} (u q : ℕ) {ws : List ℕ}
    → HoldPages pages words stored → page_at pages u q ≡ Some ws → (i : ℕ) → i < 1024
    → words u (1024 * q + i) ≡ get_or ws i 0
word_at u q h found i lt = grind (arith, nat_tests, common_steps)

blank_held : {p : Plan} {s : Store} {h : Held} → Holds p h s → IsBlank s
blank_held holds u o off = no_word holds.pages u o (sym (holds.pages.there u (o / 1024)) ∙ off)

-- a page that isn't stored
pub missing : {p : Plan} {s : Store} {h : Held} (u q : ℕ) → Holds p h s → is_some (page_at h.pages u q) ≡ false
    → Holds p h (without_pages s u (λ r. eqb r q))
missing {p} {s} {h} u q holds off =
    subst (Holds p h) (sym (none_missing s u q (blank_held holds) (holds.pages.there u q ∙ off))) holds

-- the pages from one on, where those up to the length of the segment are stored no more
pub all_done : {p : Plan} {s : Store} {g h : Held} (u from end : ℕ) → Holds p g s → end ≡ pages_in g.accounts.nodes u
    → Holds p h (without_pages s u (λ q. leb from q && ltb q end)) → Holds p h (without_pages s u (λ q. leb from q))
all_done {p} {s} {g} {h} u from end was is = subst (Holds p h) (all_between s u from end (blank_held was)
    (λ q on. let lt = (was.inside u q on).1 in let size = ap (λ ns. pages_in ns u) was.nodes in omega (arith, is)))

pub inside_without : (nodes : List Node) (xs : List (ℕ × ℕ)) (u : ℕ) (t : ℕ → Bool) → AreInside nodes xs
    → AreInside nodes (without_stored xs u t)
inside_without nodes xs u t inside v r on =
    inside v r (and_right (not (eqb v u && t r)) (is_stored xs v r) (sym (is_stored-without xs u t v r) ∙ on))
