use Rattle.page_control.proofs.Prelude.{arith, flag_within, flags_of, length, plain, record_of, rules, ◌<◌, ◌≡◌}
use Rattle.page_control.proofs.pages.Pages.record_in.Goals as goal

pub prove-unreachable-requires : goal.prove-unreachable-requires
prove-unreachable-requires g c =
    let lt : record_of (plain g.D.Drive.pages c.args.self.now) c.args.home c.args.p < length
    (flags_of (plain g.D.Drive.pages c.args.self.now) c.args.home.volume) =
    flag_within _ _ (c.requires.records.used c.args.home.volume c.args.home.entry c.args.p _ c.requires.filed) in
    let same : c.in-Some.r ≡ record_of (plain g.D.Drive.pages c.args.self.now) c.args.home c.args.p = search rules in
    let size : c.size.result ≡ length (flags_of (plain g.D.Drive.pages c.args.self.now) c.args.home.volume) =
    search rules in
    omega arith
