-- The page that is copied next is found by a walk up the page table.
use Rattle.machine_tables.proofs.Prelude.{◌≡◌, ◌<◌, ◌≤◌, ◌+◌, ◌-◌, ℕ, zero, suc, true, false, cond, length, List, Some, None, refl, arith, get_or_past, Ptw, ptw_at, is_out, first_out, next_out, Ptw as ptw}

-- past the end of a page table there is no page
none_past : (table : List Ptw) (count p : ℕ) → length table ≤ p → first_out table count p ≡ None
unfolding first_out
none_past table zero p past = refl
none_past table (suc count) p past =
    cc (get_or_past table p ptw.Null past, none_past table count (p + 1) (omega (arith, past)))

-- a page is it, or the next one after it
step : (table : List Ptw) (n count p : ℕ) → n ≡ suc count
    → first_out table n p ≡ cond (is_out (ptw_at table p)) (Some p) (first_out table count (p + 1))
unfolding first_out
step table n count p more = cc

-- a walk up to the length that was found at first
module _ (table : List Ptw) (end p : ℕ) (size : end ≡ length table) where
  pub out_end : end ≤ p → next_out table p ≡ None
  out_end past = none_past table (256 - p) p (omega arith)

  module _ (short : length table ≤ 256) (within : p < end) where
    here : next_out table p ≡ cond (is_out (ptw_at table p)) (Some p) (next_out table (p + 1))
    here = step table (256 - p) (256 - (p + 1)) p (omega arith)

    pub out_here : is_out (ptw_at table p) ≡ true → next_out table p ≡ Some p
    out_here is = cc (here, is)

    pub out_later : is_out (ptw_at table p) ≡ false → next_out table p ≡ next_out table (p + 1)
    out_later is = cc (here, is)
