use Rattle.seg_control.proofs.Chains.{None, ap, filed_word, get_or, load_step, records_in, rules, sym, table_zero, vtoc_entry as entry_at, ◌∙◌, ◌≡◌}
use Rattle.seg_control.proofs.activating.load.Goals as goal
use Rattle.seg_control.proofs.activating.load.Goals.{in-Some, in-None}

pub loop-p-init : goal.loop-p-init
loop-p-init c = assumption (sym (table_zero (records_in (entry_at c.args.vtoc.now c.args.entry))))

pub loop-p-preserved : goal.loop-p-preserved
loop-p-preserved c =
    let word : c.match-file_map.word ≡ filed_word (get_or (records_in (entry_at c.args.vtoc.now c.args.entry))
    c.loop-p.p None) =
    elim c.match-file_map.branch [
      | in-Some w ↦ w.word-is ∙ ap filed_word (sym w.in-Some.is ∙ c.file_map.ensures)
      | in-None w ↦ w.word-is ∙ ap filed_word (sym w.in-None.is ∙ c.file_map.ensures)
    ] in
    record {
      filled = rw c.set.ensures (load_step _ c.loop-p.table c.loop-p.p c.match-file_map.word (search rules)
          c.loop-p.invariant.filled word);
      long = search rules;
    }
