-- A run that there is not.
use Rattle.std.specs.Prelude.{false, []}
use Rattle.script.specs.Plans.{Plan}
use Rattle.script.specs.declared.plan.Print.TheVariants.{Short}

-- the script of no machine
abbrev pub no_plan : Plan
no_plan = record {
  processors = 0;
  frames = 0;
  pools = [];
  quota = 0;
  volumes = [];
  print = Short;
  bulks = [];
  fails = [];
  initializer = false;
  processes = [];
}
