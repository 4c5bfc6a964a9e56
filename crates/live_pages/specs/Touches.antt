-- Touches of the pages of bindings, as one thread makes them. Source: own.
use Rattle.std.specs.Prelude.{◌≡◌, ℕ, zero, suc, ◌+◌, ◌%◌, ◌^◌, ◌<◌, Bool, true, false, cond, ◌&&◌, ◌==◌, List, [], ◌∷◌, ◌++◌, length, replicate, slice_index, slice_set}
use Rattle.live_pages.specs.declared.touch.Touch.{Touch}
use Rattle.live_pages.specs.declared.touch.Touch.TheVariants.{Get, Put, Add}
use Rattle.live_pages.specs.declared.touch.Made.{Made}
use Rattle.live_pages.specs.declared.touch.Bound.{Bound}

-- the page after a touch
abbrev pub touched : Touch → List ℕ → List ℕ
touched (Get i) page = page
touched (Put i word) page = slice_set page i word
touched (Add i word) page = slice_set page i ((slice_index page i + word) % 2 ^ 36)

-- the word that a touch of a page is answered
abbrev pub answer : Touch → List ℕ → ℕ
answer (Get i) page = slice_index page i
answer (Put i word) page = word
answer (Add i word) page = (slice_index page i + word) % 2 ^ 36

-- the place of a touch
abbrev pub place_of : Touch → ℕ
place_of (Get i) = i
place_of (Put i word) = i
place_of (Add i word) = i

-- the page that each binding of each frame was given
abbrev pub Given : Type 0
Given = ℕ → ℕ → List ℕ

-- The page that each binding was given, where these have ended, the last one first: binding 0 of each frame a page of
-- zeros, and every other the page that the bind took which ended the one before.
abbrev pub page_given : List Bound → Given
page_given [] frame binding = replicate 1024 0
page_given (b ∷ bs) frame binding = cond (frame == b.frame && binding == b.binding + 1) b.next
    (page_given bs frame binding)

-- how many bindings of a frame have ended
abbrev pub ended_of : ℕ → List Bound → ℕ
ended_of frame [] = 0
ended_of frame (b ∷ bs) = cond (b.frame == frame) (ended_of frame bs + 1) (ended_of frame bs)

-- The bindings, the last one first, ended in turn: the number of each is how many of its frame had ended before it.
abbrev pub AreInTurn : List Bound → Type 0
AreInTurn [] = Unit {0}
AreInTurn (b ∷ bs) = AreInTurn bs × (b.binding ≡ ended_of b.frame bs)

-- the touch is one of this binding of this frame
abbrev pub is_of : ℕ → ℕ → Made → Bool
is_of frame binding e = e.frame == frame && e.binding == binding

abbrev pub touched_if : Bool → Touch → List ℕ → List ℕ
touched_if true t page = touched t page
touched_if false t page = page

-- The page of a binding after these touches, the last one first. A touch of another binding changes nothing.
abbrev pub after : Given → ℕ → ℕ → List Made → List ℕ
after given frame binding [] = given frame binding
after given frame binding (e ∷ es) = touched_if (is_of frame binding e) e.touch (after given frame binding es)

-- The touches, the last one first, are those of one thread: each has the next ticket, and its word is that of its
-- binding's page.
abbrev pub IsLegal : Given → List Made → Type 0
IsLegal given [] = Unit {0}
IsLegal given (e ∷ es) = IsLegal given es × (e.word ≡ answer e.touch (after given e.frame e.binding es))
    × (e.ticket ≡ length es)

-- these touches have tickets below this number
abbrev pub AreBelow : ℕ → List Made → Type 0
AreBelow n [] = Unit {0}
AreBelow n (e ∷ es) = AreBelow n es × (e.ticket < n)

abbrev pub mine_if : Bool → Made → List Made → List Made
mine_if true e es = e ∷ es
mine_if false e es = es

-- the touches of one processor
abbrev pub mine : ℕ → List Made → List Made
mine cpu [] = []
mine cpu (e ∷ es) = mine_if (e.cpu == cpu) e (mine cpu es)

-- those of the touches that drew this ticket
abbrev pub with_ticket : ℕ → List Made → List Made
with_ticket ticket [] = []
with_ticket ticket (e ∷ es) = mine_if (e.ticket == ticket) e (with_ticket ticket es)

-- those of the touches whose tickets are below n, in order of ticket
abbrev pub by_ticket : ℕ → List Made → List Made
by_ticket zero es = []
by_ticket (suc n) es = by_ticket n es ++ with_ticket n es

-- the pages of all bindings after a touch, which changes that of its own binding alone
abbrev pub touching : Made → Given → Given
touching e pages frame binding = touched_if (is_of frame binding e) e.touch (pages frame binding)

-- the pages of all bindings after one thread has made these touches, in order
abbrev pub after_all : List Made → Given → Given
after_all [] pages = pages
after_all (e ∷ es) pages = after_all es (touching e pages)

-- The touches, in order, are those of one thread that found these pages and had made n touches before: each has the
-- next ticket, and its word is that of its binding's page at that moment.
abbrev pub AreOfOneThread : ℕ → Given → List Made → Type 0
AreOfOneThread n pages [] = Unit {0}
AreOfOneThread n pages (e ∷ es) = (e.ticket ≡ n) × (e.word ≡ answer e.touch (pages e.frame e.binding))
    × AreOfOneThread (n + 1) (touching e pages) es
