-- The plan that the parts of a script are (own).
use Rattle.script.specs.Plans.{Plan}
use Rattle.script.specs.declared.plan.Parts.{Parts}

abbrev pub plan_of : Parts → Plan
plan_of p = record {
  processors = p.processors;
  frames = p.frames;
  pools = p.pools;
  quota = p.quota;
  volumes = p.volumes.items;
  print = p.print;
  bulks = p.bulks.items;
  fails = p.fails.items;
  initializer = p.initializer;
  processes = p.processes.items;
}
