use Rattle.vtoc.proofs.Codes.{codes_of_none}
use Rattle.vtoc.proofs.file_map.FileMap.new.Goals as goal

pub returns : goal.returns
returns c = codes_of_none
