use Rattle.storage_ops.proofs.Prelude.{ℕ, ap, ◌∙◌, sum, List, None, no_segments, Paging, plain, Control, no_links, AreFresh, empty_frames, pools_few}
use Rattle.storage_ops.proofs.Fresh.{filed_fresh, rest_fresh}
use Rattle.storage_ops.proofs.starting.fresh_segs.Goals.{In_ok-pages}
use Rattle.storage_ops.proofs.starting.fresh_segs.Goals as goal

-- the volumes that pages are given are fresh
fresh_pages : (g : _) (c : In_ok-pages g)
    → AreFresh c.args.script.now c.in_ok-pages.pages.volumes.records c.in_ok-pages.pages.volumes.vtocs
fresh_pages g c = rw c.in_ok-pages.ensures c.requires.fresh

pub new-requires-2-clause-records : goal.new-requires-2-clause-records
new-requires-2-clause-records g c =
    let fresh = fresh_pages g (goal.at.new-requires-2-clause-records g c).In_ok-pages in
    filed_fresh (plain g.D.Drive.pages c.in_ok-pages.pages) fresh.free fresh.unused

pub new-requires-2-clause-rest : goal.new-requires-2-clause-rest
new-requires-2-clause-rest g c =
    let fresh = fresh_pages g (goal.at.new-requires-2-clause-rest g c).In_ok-pages in
    rest_fresh (plain g.D.Drive.pages c.in_ok-pages.pages) fresh.free fresh.unused

pub new-requires-2-clause-pools : goal.new-requires-2-clause-pools
new-requires-2-clause-pools g c = rw c.pools.ensures
    (pools_few c.args.script.now.pools c.processes-processes.ensures.plan.pools)

-- segment control over these pages, with so many places in the pools and so many processes
abbrev fresh_control : {D : Type 0} → Paging D → List ℕ → ℕ → Control D
fresh_control pages pools processes = record {
  pages = pages;
  ast = no_segments pools;
  links = no_links (sum pools) processes;
  moving = None;
}

pub returns : goal.returns
returns g c = cc (
  c.in_ok-segs.ensures,
  (c.in_ok-pages.ensures ∙ ap (λ (n : ℕ). empty_frames n c.args.volumes) c.frames.ensures),
  c.pools.ensures,
  c.processes-processes.ensures.count,
)
