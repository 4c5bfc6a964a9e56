-- Which pages a truncation takes, and whether one of them is in a frame.
use Rattle.std.proofs.lemmas.Grind.{common_steps}
use Rattle.custody.proofs.Prelude.{nat_tests, ◌≡◌, ◌≢◌, ◌<◌, ℕ, Bool, true, not, List, Option, Some, None, refl, ap, inl, inr, arith, Decides, eqb_tells, leb_tells, list_any, unwrap_or, page_of, uid_of_page, FrameUse, without_words, Store, LosesNoPage, Tables, AreKept, custody_of, frame_at, is_page, is_page_from, not_both}
use Rattle.custody_model.specs.declared.FrameUse.TheVariants as frame
use Rattle.custody.proofs.ScanLaws.{scan_decides}

-- ---- a page, and pages below a number

page_is : (u q : ℕ) (o : Option (ℕ × ℕ)) → Decides (not (is_page u q o)) (o ≢ Some (u, q))
page_is u q o = grind (arith, nat_tests, common_steps, eqb_tells, not_both)

-- what a look at all frames decides of a page
pub nowhere_decides : (frames : List FrameUse) (u q : ℕ) (r : Bool) → r ≡ list_any (λ x. is_page u q (page_of x)) frames
    → Decides (not r) ((f : ℕ) → page_of (frame_at frames f) ≢ Some (u, q))
nowhere_decides frames u q r is = scan_decides (λ x. is_page u q (page_of x)) (λ x. page_of x ≢ Some (u, q)) frame.Free
    refl (λ x. page_is u q (page_of x)) frames r is

from_is : (u k : ℕ) (o : Option (ℕ × ℕ)) → Decides (not (is_page_from u k o)) ((q : ℕ) → o ≡ Some (u, q) → q < k)
from_is u k None = (λ t q e. cc, λ h. refl)
from_is u k (Some p) = elim (eqb_tells p.0 u) [
  | inl e ↦ elim (leb_tells k p.1) [
    | inl l ↦ rw e.0 (rw l.0 (
      λ t. absurd (not_both t refl),
      λ h. let less = h p.1 (λ i. Some (e.1 i, p.1)) in let le = l.1 in absurd (omega (arith, less, le)),
    ))
    | inr l ↦ rw e.0 (rw l.0 (
      λ t q g.
          let same : p.1 ≡ q = ap (λ (o : Option (ℕ × ℕ)). (unwrap_or o (0, 0)).1) g in
          let less = l.1 in omega (arith, same, less),
      λ h. refl,
    ))
  ]
  | inr e ↦ rw e.0 (
    λ t q g. absurd (e.1 (ap (λ (o : Option (ℕ × ℕ)). (unwrap_or o (0, 0)).0) g)),
    λ h. refl,
  )
]

-- what a look at all frames decides of the pages of a segment
pub below_decides : (frames : List FrameUse) (u k : ℕ) (r : Bool)
    → r ≡ list_any (λ x. is_page_from u k (page_of x)) frames
    → Decides (not r) ((f q : ℕ) → page_of (frame_at frames f) ≡ Some (u, q) → q < k)
below_decides frames u k r is = scan_decides (λ x. is_page_from u k (page_of x))
    (λ x. (q : ℕ) → page_of x ≡ Some (u, q) → q < k) frame.Free refl (λ x. from_is u k (page_of x)) frames r is

-- a segment without a page in a frame has none from a number on there
pub none_from : (frames : List FrameUse) (u k : ℕ) → ((f : ℕ) → uid_of_page (page_of (frame_at frames f)) ≢ Some u)
    → Decides true ((f q : ℕ) → page_of (frame_at frames f) ≡ Some (u, q) → q < k)
none_from frames u k none = (λ t f q is. absurd (none f (ap uid_of_page is)), λ h. refl)

-- ---- which pages are lost

pub loses_decides : (s : Store) (t : Tables) (u from k : ℕ) (frames : List FrameUse) (r : Bool) → frames ≡ t.frames
    → AreKept (without_words s.words u from) u from k
    → Decides r ((f q : ℕ) → page_of (frame_at frames f) ≡ Some (u, q) → q < k)
    → Decides r (LosesNoPage s (custody_of t) u from)
loses_decides s t u from k frames r is kept h =
    let d = rw is at h in
    (λ e f q at. (kept q).0 (d.0 e f q at), λ l. d.1 (λ f q at. (kept q).1 (l f q at)))
