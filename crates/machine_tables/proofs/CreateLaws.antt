-- A page that is made: what the store asks, and what the tables have then.
use Rattle.machine_tables.proofs.Prelude.{◌≡◌, ℕ, ◌+◌, cond, map, List, Option, Some, None, refl, sym, ap, ◌∙◌, arith, Result, Ok, Plan, Reference, Reply, HasColumns, count_of, uid_of, Node, node_in, volume_in, is_volume_full, room_reply, room_for, Store, HasParts, plain, kst_at, IsKnownAs, IsPageMade, done_or, move_target, IsStore, Shows, Stored, pages_of, full_told, room_shown, IsFaithful, charged, with_created, flat_of, State, Storage, HasPlace, IsMakeable, shown, found_uid, Reply as reply}
use Rattle.machine_tables.proofs.ColumnLaws.{recounted}
use Rattle.machine_tables.proofs.RefusalLaws.{moves_is, shows_of}

-- where the segment must move first, by the tables of a store, is what the flat store says
target_told : {D : Type 0} (drive : D → List (List ℕ)) (p : Plan) (flat : Store) (t : Stored D) (u : ℕ)
    → Shows drive p flat t → IsStore (plain drive t.segs.pages) t.segs.ast t.segs.links t.accounts t.whos
    → HasParts (map drive t.segs.pages.volumes.drives) t.segs.pages.volumes.records t.segs.pages.volumes.vtocs
    → move_target t u ≡ cond (is_volume_full p flat (volume_in flat.nodes u)) (room_for p flat u) None
target_told drive p flat t u shows kept parts = grind (arith, full_told, room_shown)

-- the segment of a page that may be made stays where it is
pub stays : {D : Type 0} (drive : D → List (List ℕ)) (s : State) (t : Stored D) (k f : ℕ) (r : Reference) (u : ℕ)
    → Shows drive s.plan (flat_of s) t → IsStore (plain drive t.segs.pages) t.segs.ast t.segs.links t.accounts t.whos
    → HasParts (map drive t.segs.pages.volumes.drives) t.segs.pages.volumes.records t.segs.pages.volumes.vtocs
    → (h : IsMakeable s k f r) → uid_of (kst_at s.store.links.known k) r.number ≡ Some u → move_target t u ≡ None
stays drive s t k f r u shows kept parts h known =
    cc (target_told drive s.plan (flat_of s) t u shows kept parts, moves_is s u)
  where
    same : u ≡ h.place.uid
    same = cc (known, h.place.known)

-- the page is made where there is room for it
pub made_surely : {D : Type 0} (drive : D → List (List ℕ)) (t : Stored D) (st : Storage) (k f : ℕ) (r : Reference)
    (p : Plan) (flat : Store) (result : Result (Unit {0}) Reply) → shown drive t ≡ st → (h : HasPlace st k f r)
    → IsFaithful p flat st
    → ((n : Node) → node_in flat.nodes h.uid ≡ Some n → room_reply p flat n reply.Done ≡ reply.Done)
    → ((q : Plan) (s : Store) (n : Node) → Shows drive q s t → IsKnownAs s k r.number n
    → result ≡ done_or (room_reply q s n reply.Done)) → result ≡ Ok tt
made_surely drive t st k f r p flat result is h faithful room answer = by (node_in flat.nodes h.uid) refl
  where
    by : (x : Option Node) → node_in flat.nodes h.uid ≡ x → result ≡ Ok tt
    by None e =
        let none = ap pages_of (ap (λ (ns : List Node). node_in ns h.uid) (sym faithful.tree.nodes) ∙ e) in
        let within = h.within in absurd (omega arith)
    by (Some n) e =
        let own : n.uid ≡ h.uid = found_uid flat.nodes h.uid n e in
        answer p flat n (shows_of drive p flat t (rw is faithful)) (assumption (
          ap (λ (x : List (List (Option ℕ))). uid_of (kst_at x k) r.number) faithful.known
              ∙ (h.known ∙ ap (λ (u : ℕ). Some u) (sym own)),
          ap (node_in flat.nodes) own ∙ e,
        )) ∙ ap done_or (room n e)

-- what the store has then
pub created_is : {D : Type 0} (drive : D → List (List ℕ)) (t u : Stored D) (uid p f at w : ℕ)
    → HasColumns t.accounts → HasColumns u.accounts → IsPageMade drive t u uid p f at w
    → shown drive u ≡ with_created (shown drive t) f uid p at w
created_is drive t u uid p f at w before after made = (λ i. record {
  accounts = accounts i;
  pages = made.pages i;
  ast = made.word i;
  links = made.links i;
  whos = made.whos i;
  moving = made.moving i;
})
  where
    accounts : u.accounts ≡ charged t.accounts uid
    accounts = recounted t.accounts u.accounts uid (count_of t.accounts uid + 1) before after made.charged
