use Rattle.layer_tests.proofs.Prelude.{Entry, List, Option, Some, Vols, ap, entry_at, has_record, is_some, length, plain_volume, ptw_at, record_at, rules, subst, true, uid_of, vtoc_at, ◌<◌, ◌∙◌, ◌≡◌}
use Rattle.layer_tests.proofs.tests.rehoming.second_home.Goals as goal

pub returns-clause-home : goal.returns-clause-home
returns-clause-home g c =
    let is_so : c.is_for.result ≡ true = search rules in
    let inside : c.args.volume < length c.loop-p.pages.volumes.drives = search rules in
    let same = c.vtoc.ensures
    ∙ ap (λ (v : Vols g.row.D.Denot). vtoc_at v c.args.volume) c.volumes-3.ensures.volumes in
    record {
      volume = plain_volume g.D.Drive.pages c.loop-p.pages c.args.volume inside;
      used = subst (λ (those : List (Option Entry)). uid_of (entry_at those c.expect-entry.result) ≡ Some c.args.uid)
          same (c.is_for.ensures.uid is_so);
      stored = λ p. subst (λ (those : List (Option Entry)). is_some (record_at those c.expect-entry.result p)
          ≡ has_record (ptw_at c.args.t.now p)) same (c.is_for.ensures.pages is_so p);
    }
