-- A directory or a segment is deleted.
use Rattle.std.proofs.lemmas.Grind.{common_steps}
use Rattle.flat_store.proofs.Prelude.{◌≡◌, ◌≢◌, ℕ, true, false, List, set, Some, is_some, refl, sym, ◌∙◌, arith, nat_le, nat_tests, AccountMaps, Loses, count_of, Plan, Node, entries_on, node_in, volume_in, without_node, IsTree, is_stored, is_stored-without, without_pages, Store, entries_of, field_left, volume_found, directory_gone, directory_left, none_counted, segment_left, taken_left, entries_less, some_there, AreFlat, AreInside, Gauge, gauge_at, drained, Held, Holds, page_at, pages_in}
use Rattle.laws.proofs.Bools.{not_both}
use Rattle.laws.proofs.Numbers.{eqb_self}
use Rattle.flat_store.proofs.GaugeLaws.{counts_less}

pages_left : (ns : List Node) (u v : ℕ) → v ≢ u → pages_in (without_node ns u) v ≡ pages_in ns v
pages_left ns u v = field_left (λ xs. pages_in xs v) (λ n. n.pages) v (λ m xs. refl) ns u

inside_left : (ns : List Node) (xs : List (ℕ × ℕ)) (u : ℕ) → ((page : ℕ) → is_stored xs u page ≡ false)
    → AreInside ns xs → AreInside (without_node ns u) xs
inside_left ns xs u none inside v q on = grind (arith, nat_tests, common_steps, not_both, segment_left, pages_left)

flat_left : (ns : List Node) (u : ℕ) → AreFlat ns → AreFlat (without_node ns u)
flat_left ns u flat v is =
    grind (arith, nat_tests, common_steps, not_both, directory_gone ns u, pages_left, directory_left)

none_stored : {p : Plan} {s : Store} {h : Held} (u : ℕ) → Holds p h s
    → ((page : ℕ) → is_some (page_at h.pages u page) ≡ false) → (page : ℕ) → is_stored s.stored u page ≡ false
none_stored u holds none page = holds.pages.there u page ∙ none page

pub no_count : {p : Plan} {s : Store} {h : Held} (u : ℕ) → Holds p h s
    → ((page : ℕ) → is_some (page_at h.pages u page) ≡ false) → count_of h.accounts u ≡ 0
no_count {s = s} u holds none = holds.counts u ∙ none_counted s.stored u (none_stored u holds none)

pub removed_shown : {p : Plan} {s : Store} {h : Held} {accounts : AccountMaps} {entries : List Gauge} (u v : ℕ)
    → Holds p h s → Loses h.accounts accounts u → entries ≡ set h.entries v (drained 1 (gauge_at h.entries v))
    → v ≡ volume_in h.accounts.nodes u → IsTree h.accounts.nodes → is_some (node_in h.accounts.nodes u) ≡ true
    → ((page : ℕ) → is_some (page_at h.pages u page) ≡ false)
    → Holds p (record h { accounts = accounts; entries = entries }) (record s { nodes = without_node s.nodes u })
removed_shown {p} {s} {h} u v holds loses less place tree there none =
    let unstored = none_stored u holds none in
    let found = some_there (node_in h.accounts.nodes u) there in
    let own : node_in s.nodes u ≡ Some found.0 = rw holds.nodes found.1 in
    let shape : IsTree s.nodes = rw holds.nodes tree in
    let at : v ≡ found.0.volume = place ∙ sym (volume_found h.accounts.nodes u found.0 found.1) in
    record {
      nodes = rw (holds.nodes, loses.nodes) refl;
      next = holds.next ∙ sym loses.next;
      counts = λ x. loses.counts x ∙ holds.counts x;
      pages = holds.pages;
      inside = inside_left s.nodes s.stored u unstored holds.inside;
      flat = flat_left s.nodes u holds.flat;
      records = λ x. rw (taken_left s.nodes s.stored u x unstored) (holds.records x);
      entries = rw (less, at) (counts_less h.entries (entries_on s.nodes) (entries_on (without_node s.nodes u))
          (entries_of p) 1 found.0.volume holds.entries (entries_less s.nodes u found.0 shape own));
    }

-- all pages are gone once those from the first on are
pub all_gone : {p : Plan} (s : Store) {h : Held} (u : ℕ) → Holds p h (without_pages s u (λ q. nat_le 0 q))
    → (page : ℕ) → is_some (page_at h.pages u page) ≡ false
all_gone s u holds page =
    let all : nat_le 0 page ≡ true = grind (arith, nat_tests) in
    rw (← holds.pages.there u page, is_stored-without s.stored u (λ q. nat_le 0 q) u page, eqb_self u, all) refl
