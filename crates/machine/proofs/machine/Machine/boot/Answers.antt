use Rattle.machine.proofs.Prelude.{◌≡◌, ◌∙◌, ap, length, List, map, sum_by, sym, length-map, VolumeLine, Vols, made_of, first_state, first_store, State, first_words, first_keeps, parts_of}
use Rattle.machine.proofs.Laws.{are_fresh, as_many, drives_are, visited_first}
use Rattle.machine.proofs.machine.Machine.boot.Goals.{In_ok-volumes}
use Rattle.machine.proofs.machine.Machine.boot.Goals as goal

pub volumes-requires-2 : goal.volumes-requires-2
volumes-requires-2 g c = as_many g.D.Drive.pages _ _ c.requires
    ∙ ap (λ (ls : List VolumeLine). length ls) (sym c.volumes.ensures)

-- the drives of the volumes that are made are those that are given, as many as the script has
drives_made : (g : _) (c : In_ok-volumes g) → c.in_ok-volumes.volumes.drives ≡ c.args.drives.items
drives_made g c = ap (λ (v : Vols g.row.D.Denot). v.drives) (c.in_ok-volumes.ensures
    ∙ ap (λ (ls : List VolumeLine). made_of g.D.Drive.pages (parts_of ls c.args.drives.items)) c.volumes.ensures)
    ∙ drives_are g.D.Drive.pages c.args.script.volumes c.args.drives.items
    (as_many g.D.Drive.pages c.args.script.volumes c.args.drives.items c.requires)

many : (g : _) (c : In_ok-volumes g) → length c.in_ok-volumes.volumes.drives ≡ length c.args.script.volumes
many g c = ap length (drives_made g c) ∙ as_many g.D.Drive.pages c.args.script.volumes c.args.drives.items c.requires

pub boot-requires-clause-count : goal.boot-requires-clause-count
boot-requires-clause-count g c = many g (goal.at.boot-requires-clause-count g c).In_ok-volumes

pub boot-requires-clause-fresh : goal.boot-requires-clause-fresh
boot-requires-clause-fresh g c = rw (c.in_ok-volumes.ensures ∙ ap (λ (ls : List VolumeLine). made_of g.D.Drive.pages
    (parts_of ls c.args.drives.items)) c.volumes.ensures) (are_fresh g.D.Drive.pages c.args.script c.args.drives.items
    c.requires)

pub invariant_of-result : goal.invariant_of-result
invariant_of-result g c = record {
  keeps = first_keeps c.args.script _ _ _ _ c.promise.ensures _ c.in_ok-tables.ensures.state
      c.in_ok-tables.ensures.says;
  room = c.in_ok-tables.ensures.room ∙ sym (ap (λ (s : State). length s.plan.processes) c.in_ok-tables.ensures.state);
  drives = ap (λ (s : State). length s.store.pages.disks) c.in_ok-tables.ensures.state ∙ (length-map _ g.D.Drive.pages
      ∙ (many g (goal.at.invariant_of-result g c).In_ok-volumes
      ∙ sym (ap (λ (s : State). length s.plan.volumes) c.in_ok-tables.ensures.state)));
  visits = visited_first _ c.args.script.processors (ap (λ (s : State). s.processors) c.in_ok-tables.ensures.state)
      (ap (λ (s : State). s.visited) c.in_ok-tables.ensures.state);
}

pub returns-clause-drives : goal.returns-clause-drives
returns-clause-drives g c =
    c.in_ok-tables.ensures.drives ∙ drives_made g (goal.at.returns-clause-drives g c).In_ok-volumes

pub returns-clause-state : goal.returns-clause-state
returns-clause-state g c = c.in_ok-tables.ensures.state
    ∙ ap (λ (ds : List g.row.D.Denot). first_state c.args.script (first_store c.args.script
    (first_words c.args.script.frames) (map g.D.Drive.pages ds)) c.in_ok-tables.tables.state.spare
    (sum_by g.D.Drive.faults ds)) (drives_made g (goal.at.returns-clause-state g c).In_ok-volumes)
