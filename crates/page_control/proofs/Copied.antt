-- A page that is copied to its record at another home, for the proofs of the crates above.
use Rattle.page_control.proofs.Pictures.{Home, IsCopied, IsWrittenAt, List, Out, Plain, Ptw, Some, [], ap, arith, cases_eq, disk_of, filed, filed_same, get_or-set_other, get_or-set_same, inl, inr, leb_tells, length, ptw_at, record_at, set, sym, vtoc_in, words_filed, words_out, written, ℕ, ◌+◌, ◌<◌, ◌∙◌, ◌≡◌, ◌≢◌, ◌≤◌}

-- the pages of the volume whose record is written
disk_here : (s : Plain) {v : ℕ} (r : ℕ) (words : List ℕ) → v < length s.disks
    → disk_of (written s v r words) v ≡ set (disk_of s v) r words
disk_here s {v = v} r words lt = get_or-set_same s.disks v (set (disk_of s v) r words) [] lt

-- a page has the words that it had on its record, where that is another one
out_other : (s : Plain) (v r q : ℕ) (words : List ℕ) (h : Home) → v < length s.disks
    → (h.volume ≡ v → filed s h q ≡ Some r → ⊥) → words_out (written s v r words) h q ≡ words_out s h q
out_other s v r q words h lt other = elim (cases_eq h.volume v) [
  | inr n ↦ ap (λ (disk : List (List ℕ)). words_filed disk (filed s h q))
      (get_or-set_other s.disks v h.volume (set (disk_of s v) r words) [] n)
  | inl same ↦ filed_same (disk_of s h.volume) (disk_of (written s v r words) h.volume) (filed s h q) (λ k named. cc (
    disk_here s r words lt,
    get_or-set_other (disk_of s v) r k words [] (λ hit. other same (named ∙ ap Some hit)),
  ))
]

module _ {s now : Plain} {to : Home} {p r : ℕ} {words : List ℕ} (w : IsWrittenAt s now to p r words) where
  -- no other page of any home is on the record
  apart : {h : Home} {q : ℕ} → (h ≡ to → q ≡ p → ⊥) → h.volume ≡ to.volume → filed s h q ≡ Some r → ⊥
  apart {h = h} {q = q} other same named =
      let at : record_at (vtoc_in s.vtocs to.volume) h.entry q ≡ Some r =
      ap (λ (v : ℕ). record_at (vtoc_in s.vtocs v) h.entry q) (sym same) ∙ named in
      let one = w.records.once to.volume h.entry q to.entry p r at w.its in
      other (λ i. record { volume = same i; entry = one.0 i }) one.1

  pub out_kept : (h : Home) (q : ℕ) → (h ≡ to → q ≡ p → ⊥) → words_out now h q ≡ words_out s h q
  out_kept h q other = rw w.effect (out_other s to.volume r q words h w.volume (apart other))

  pub out_now : words_out now to p ≡ words
  out_now = rw w.effect (cc (disk_here s r words w.volume, get_or-set_same (disk_of s to.volume) r words [] w.within))

-- and where the words are those of the page at the home that it has, one page more is copied
pub page_copied : {s now : Plain} {from to : Home} {n p r : ℕ} {words : List ℕ} {t : List Ptw}
    → IsWrittenAt s now to p r words → words ≡ words_out s from p → from ≢ to → IsCopied s t from to n
    → ((q k : ℕ) → n ≤ q → q < p → ptw_at t q ≡ Out k → ⊥) → IsCopied now t from to (p + 1)
page_copied {s = s} {now = now} {from = from} {to = to} {n = n} {p = p} {t = t} w same other copied none = record {
  words = λ q k lt out. elim (cases_eq q p) [
    | inl is ↦ ap (words_out now to) is ∙ out_now w ∙ same ∙ sym (out_kept w from p (λ e x. other e))
        ∙ ap (words_out now from) (sym is)
    | inr isnt ↦ out_kept w to q (λ e is. isnt is) ∙ copied.words q k (before lt isnt out) out
        ∙ sym (out_kept w from q (λ e x. other e))
  ];
}
  where
    before : {q k : ℕ} → q < p + 1 → q ≢ p → ptw_at t q ≡ Out k → q < n
    before {q = q} {k = k} lt isnt out = elim (leb_tells n q) [
      | inl past ↦ absurd (none q k past.1 (omega arith) out)
      | inr less ↦ (omega arith)
    ]
