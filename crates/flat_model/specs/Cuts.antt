-- Pages that are stored no more, words that are cut off, and a branch that is taken out, each by itself (Bensoussan,
-- Clingen and Daley 1972).
use Rattle.std.specs.Prelude.{ℕ, ◌-◌, ◌/◌, ◌%◌, Bool, true, ◌&&◌, ◌==◌, nat_le, if◌then◌else◌, List, ◌++◌, take, replicate, Option, Some, None}
use Rattle.tree_model.specs.Tree.{without_node}
use Rattle.flat_model.specs.Pages.{is_stored, is_zero_page, without_stored, without_words}
use Rattle.flat_model.specs.Store.{Store}

-- the words of a page, 0 from a place on
abbrev pub cut_at : ℕ → List ℕ → List ℕ
cut_at at words = take at words ++ replicate (1024 - at) 0

-- the store once the pages of a segment that pass a test are stored no more, and their words are 0
abbrev pub without_pages : Store → ℕ → (ℕ → Bool) → Store
without_pages s uid test = record s {
  words = λ u o. if u == uid && test (o / 1024) then 0 else s.words u o;
  stored = without_stored s.stored uid test;
}

-- the store once the words of a page from a place on are 0, and whether the page is stored and all zeros then
abbrev pub cleared : Store → ℕ → ℕ → ℕ → Store
cleared s uid page at = record s {
  words = λ u o. if u == uid && (o / 1024 == page && nat_le at (o % 1024)) then 0 else s.words u o;
}

abbrev pub has_cleared : Store → ℕ → ℕ → ℕ → Bool
has_cleared s uid page at = is_stored s.stored uid page && is_zero_page (cleared s uid page at).words uid page

-- the store once the page that an offset cuts is 0 from it on, and stored no more where it is all zeros
abbrev pub cut_once : Store → ℕ → ℕ → Store
cut_once s uid from =
    let page = from / 1024 in
    let at = from % 1024 in
    if has_cleared s uid page at then without_pages (cleared s uid page at) uid (λ q. q == page)
    else cleared s uid page at

-- the store without a directory or a segment, if there is one to take out
abbrev pub without_branch : Store → Option ℕ → Store
without_branch s None = s
without_branch s (Some uid) = record s {
  nodes = without_node s.nodes uid;
  words = without_words s.words uid 0;
  stored = without_stored s.stored uid (λ page. true);
}
