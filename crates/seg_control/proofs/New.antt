-- Segment control where nothing is active, known or connected.
pub use Rattle.seg_control.proofs.Prelude.{ActiveSegs, AreAtRest, AreFiled, AreFree, AreLinked, AreNullTables, Fault, Free, IsKept, IsTree, Links, List, None, Null, Option, Plain, Ptw, Sdw, Some, [], all_faults, all_same, ap, arith, binding_at, bindings, bound_page, cases_lt, count_by, get_or, get_or-map, get_or-replicate, get_or_past, inl, inr, kst_at, leads, leads_at, leads_to, length, length-replicate, length_of_four, no_links, no_segments, none-some, null_tables, plain, ptw_at, read_at, reads_of, refl, replicate, sdw_at, size_of, started_page, suc, sum, superior_at, superior_in, sym, table_at, times, uid_at, uid_in, uid_of, zero, ℕ, ◌++◌, ◌+◌, ◌^◌, ◌∙◌, ◌∷◌, ◌≡◌, ◌≢◌, ◌≤◌}
use Rattle.seg_control.proofs.Frames.{read_is}

-- one of many equal ones, or the default past their end
one_of : {X : Type 0} (n i : ℕ) (x d : X) (P : X → Type 0) → P x → P d → P (get_or (replicate n x) i d)
one_of n i x d P px pd = elim (cases_lt i n) [
  | inl lt ↦ rw (get_or-replicate n i x d lt) px
  | inr past ↦ rw (get_or_past (replicate n x) i d (rw (length-replicate n x) past)) pd
]

none_at : (n place uid : ℕ) → uid_at (replicate n None) place ≢ Some uid
none_at n place uid e = none-some uid (sym (ap uid_in (all_same n place None)) ∙ e)

none_above : (n place uid : ℕ) → superior_at (replicate n None) place ≢ Some uid
none_above n place uid e = none-some uid (sym (ap superior_in (all_same n place None)) ∙ e)

tree_empty : (n : ℕ) → IsTree (replicate n None)
tree_empty n = record {
  once = λ p q uid e e'. absurd (none_at n p uid e);
  superiors = λ place superior e. absurd (none_above n place superior e);
  grounded = (λ _. 0, λ place uid superior e e'. absurd (none_at n place uid e));
}

-- ---- page tables

AreBlank : List (List Ptw) → Type 0
AreBlank tables = (place p : ℕ) → ptw_at (table_at tables place) p ≡ Null

blank_same : (n m : ℕ) → AreBlank (replicate n (replicate m Null))
unfolding AreBlank
blank_same n m place p = one_of n place (replicate m Null) [] (λ (t : List Ptw). ptw_at t p ≡ Null)
    (one_of m p Null Null (λ (w : Ptw). w ≡ Null) refl refl) refl

blank_both : (xs ys : List (List Ptw)) → AreBlank xs → AreBlank ys → AreBlank (xs ++ ys)
unfolding AreBlank
blank_both [] ys one two place p = two place p
blank_both (x ∷ xs) ys one two zero p = one 0 p
blank_both (x ∷ xs) ys one two (suc place) p = blank_both xs ys (λ q n. one (suc q) n) two place p

blank_null : (pools : List ℕ) → AreBlank (null_tables pools)
blank_null pools =
    blank_both _ _ (blank_both _ _ (blank_both _ _ (blank_same (size_of pools 0) 4) (blank_same (size_of pools 1) 16))
    (blank_same (size_of pools 2) 64)) (blank_same (size_of pools 3) 256)

word_null : (pools : List ℕ) (place p : ℕ) → ptw_at (table_at (null_tables pools) place) p ≡ Null
unfolding AreBlank
word_null pools place p = blank_null pools place p

-- ---- descriptors, trailers and known segment tables

unled : (n q number : ℕ) → leads_at (replicate n all_faults) q number ≡ None
unled n q number = one_of n q all_faults [] (λ (words : List Sdw). leads (sdw_at words number) ≡ None)
    (one_of 256 number Fault Fault (λ (w : Sdw). leads w ≡ None) refl refl) refl

unknown : (n q number : ℕ) → uid_of (kst_at (replicate n (replicate 256 None)) q) number ≡ None
unknown n q number = one_of n q (replicate 256 None) [] (λ (kst : List (Option ℕ)). uid_of kst number ≡ None)
    (one_of 256 number None None (λ (u : Option ℕ). u ≡ None) refl refl) refl

abbrev no_number : Option ℕ
no_number = None

linked_none : (n places processes : ℕ) → places ≡ n → processes ≤ 32
    → AreLinked (replicate n None) (no_links places processes)
linked_none n places processes same few = record {
  exact = λ place q number.
      cc (one_of places place [] [] (λ (xs : List (ℕ × ℕ)). xs ≡ []) refl refl, unled processes q number);
  known = λ q number place e. cc (unled processes q number);
  each = λ q a b uid e e'. cc (unknown processes q a);
  lists = record {
    places = length-replicate places [] ∙ same ∙ sym (length-replicate n None);
    processes = length-replicate processes all_faults ∙ sym (length-replicate processes (replicate 256 None));
    few = rw (length-replicate processes (replicate 256 no_number)) few;
    numbers = λ q lt. rw (get_or-replicate processes q (replicate 256 no_number) []
        (rw (length-replicate processes (replicate 256 no_number)) at lt)) (length-replicate 256 no_number);
    words = λ q lt. rw (get_or-replicate processes q all_faults []
        (rw (length-replicate processes (replicate 256 no_number)) at lt)) (length-replicate 256 Fault);
  };
}

-- ---- the whole

pub kept_new : (now : Plain) (pools : List ℕ) (places processes : ℕ) (ast : ActiveSegs) (links : Links) → length pools
    ≡ 4 → processes ≤ 32 → AreFree now.core → AreFiled now.records now.vtocs → AreAtRest now → ast ≡ no_segments pools
    → AreNullTables pools ast.tables → places ≡ sum pools → links ≡ no_links places processes → IsKept now ast links
kept_new now pools places processes ast links four few free filed rest is_ast null same is_links =
    rw (is_ast, is_links) (record {
      paged = record {
        tables = λ place uid e. absurd (none_at (sum pools) place uid e);
        ties = λ place uid home e is. absurd (none_at (sum pools) place uid e);
        rest = λ uid home off is. rest uid home is;
        blank = λ place p e. word_null pools place p;
        bound = λ f uid p e. absurd (not_bound f (uid, p) e);
        started = λ f uid p e. absurd (not_read f (uid, p) e);
        once = λ f g uid p e e'. absurd (not_read f (uid, p) e);
        filed = filed;
      };
      tree = tree_empty (sum pools);
      places = length_of_four (replicate 4 Null) (replicate 16 Null) (replicate 64 Null) (replicate 256 Null) pools four
          ∙ sym (length-replicate (sum pools) None);
      sized = λ pool place lt in_pool. ap length ((rw is_ast at null) pool place lt in_pool)
          ∙ length-replicate (4 ^ (pool + 1)) Null;
      linked = linked_none (sum pools) places processes same few;
    })
  where
    not_bound : (f : ℕ) (x : ℕ × ℕ) → binding_at (bindings now.core) f ≡ Some x → ⊥
    not_bound f x e = none-some x (cc (get_or-map bound_page now.core.frames f Free, free f))

    not_read : (f : ℕ) (x : ℕ × ℕ) → read_at (reads_of now.core) f ≡ Some x → ⊥
    not_read f x e = none-some x (cc (read_is now.core f, free f))
