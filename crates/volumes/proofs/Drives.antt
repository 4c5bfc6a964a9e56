pub use Rattle.volumes.proofs.Prelude.{ap, get_or-map, map-set, map-set_same}

-- what a call of one drive does to the list of what all drives hold
pub ruleset one_drive = (map-set, map-set_same, get_or-map)
