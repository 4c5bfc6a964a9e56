use Rattle.drill.proofs.Rows.{AreFirstOf, arith, done_all, first_words, length, made_by, rules, sum, sums_of, sym, work_of, ◌%◌, ◌+◌, ◌^◌, ◌∙◌}
use Rattle.drill.proofs.Closing.{AtClose, ap, ended_is, front, subst, total, touches}
use Rattle.drill.proofs.finish.finish.Goals as goal

pub close-ended-requires-clause-all : goal.close-ended-requires-clause-all
close-ended-requires-clause-all c = done_all c.args.pages c.args.size.seed c.args.size.adds c.args.row.items
    c.requires.row.0 (c.requires.row.1 ∙ c.requires.size.0)

pub returns-clause-end : goal.returns-clause-end
returns-clause-end c =
    let size = c.args.size in
    let ended = c.close-ended.result in
    let end : AtClose c.args.pages size.seed size.adds c.args.row.items c.args.kept.keeper ended.shown
    ended.pages.items = record {
      taken = c.close-ended.ensures.shown;
      kept = c.requires.kept.keeper;
      zeros = c.requires.kept.zeros;
      done = c.requires.row.0;
      all = c.requires.row.1 ∙ c.requires.size.0;
      some = search rules;
      few = search rules;
      count = c.close-ended.ensures.count;
      one_thread = c.close-ended.ensures.one_thread;
      after = c.close-ended.ensures.left;
    } in
    let s = c.args.kept.sum in
    let u = c.args.unmade in
    let cpus = c.requires.size.0 in
    let at =
    c.with_pages-total.ensures ∙ ap (λ x. (x + first_words (length c.deref.result.now) c.deref.result.now) % 2 ^ 36)
    c.plus.ensures ∙ ap (λ l. ((s + u) % 2 ^ 36 + first_words (length l) l) % 2 ^ 36) c.deref.ensures.value in record {
      front = λ cpu below. subst (λ f. AreFirstOf (work_of f (size.seed + cpu) size.adds) (made_by cpu ended.shown))
          (sym c.requires.size.1) (front _ _ _ _ _ _ _ end cpu (omega arith));
      total = total _ _ _ _ _ _ _ end s u c.with_pages-total.result c.requires.kept.sum c.requires.unmade at
          ∙ ap (λ f. sum (sums_of f size.adds size.seed c.args.pages.cpus)) (sym c.requires.size.1)
          ∙ ap (λ n. sum (sums_of size.frames size.adds size.seed n)) (sym c.requires.size.0);
      bindings = c.requires.kept.bindings ∙ ap (λ bs. length bs) (sym (ended_is _ _ _ _ _ _ _ end));
      touches = c.requires.touches ∙ touches _ _ _ _ _ _ _ end;
      one_thread = search rules;
      left = c.close-ended.ensures.left;
    }
