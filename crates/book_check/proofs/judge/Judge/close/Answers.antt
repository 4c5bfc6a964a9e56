use Rattle.book_check.proofs.Prelude.{string_bytes, List, ℕ, ap, sym, ◌∙◌, same_lines, lines_of}
use Rattle.book_check.proofs.CloseLaws.{closed_early, closed_zeros, closed_well, closed_wrong, closed_short}
use Rattle.book_check.proofs.judge.Judge.close.Goals as goal

pub returns-then-not-have_ended : goal.returns-then-not-have_ended
returns-then-not-have_ended c = closed_early c.self.inside.script c.self.inside.store c.self.inside.custody
    c.self.inside.entries c.args.self.now
    c.self.view_is c.args.first (lines_of c.args.rest.now) c.have_ended.result c.refused.result c.have_ended.ensures
    (cc) c.refused.ensures

pub returns-then-has_zero_page : goal.returns-then-has_zero_page
returns-then-has_zero_page c = closed_zeros c.self.inside.script c.self.inside.store c.self.inside.custody
    c.self.inside.entries c.args.self.now
    c.self.view_is c.args.first (lines_of c.args.rest.now) c.have_ended.result c.have_ended.ensures (cc)
    c.has_zero_page.result
    c.refused-then-has_zero_page.result c.has_zero_page.ensures (cc) c.refused-then-has_zero_page.ensures

pub returns-in-Err : goal.returns-in-Err
returns-in-Err c = closed_short c.self.inside.script c.self.inside.store c.self.inside.custody c.self.inside.entries
    c.args.self.now c.self.view_is c.args.first (lines_of c.args.rest.now)

pub returns-in-None : goal.returns-in-None
returns-in-None c = closed_well c.self.inside.script c.self.inside.store c.self.inside.custody c.self.inside.entries
    c.args.self.now c.self.view_is c.args.first (lines_of c.args.rest.now) c.have_ended.result c.have_ended.ensures (cc)
    c.has_zero_page.result c.has_zero_page.ensures (cc) (string_bytes c.in-Ok.due) c.in-Ok.ensures
    (λ s. c.accounts_promise.ensures.tree c.self.inside.script s)
    (λ s. c.accounts_promise.ensures.within c.self.inside.script s)
    (c.in-None.ensures.same ∙ ap lines_of c.as_bytes.ensures.value)

pub returns : goal.returns
returns c = closed_wrong c.self.inside.script c.self.inside.store c.self.inside.custody c.self.inside.entries
    c.args.self.now c.self.view_is c.args.first (lines_of c.args.rest.now) c.have_ended.result c.have_ended.ensures (cc)
    c.has_zero_page.result c.has_zero_page.ensures (cc) (string_bytes c.in-Ok.due) c.in-Ok.ensures
    (λ s. c.accounts_promise.ensures.tree c.self.inside.script s)
    (λ s. c.accounts_promise.ensures.within c.self.inside.script s) c.in-Some.agreeing c.refused-in-Some.result
    (c.in-Some.ensures.count ∙ ap (λ (t : List ℕ). same_lines (lines_of c.args.rest.now) (lines_of t))
    c.as_bytes.ensures.value)
    (λ e. c.in-Some.ensures.other (e ∙ ap lines_of (sym c.as_bytes.ensures.value))) c.refused-in-Some.ensures
