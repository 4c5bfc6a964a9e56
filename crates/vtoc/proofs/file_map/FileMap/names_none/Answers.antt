use Rattle.vtoc.proofs.Codes.{names_none}
use Rattle.vtoc.proofs.file_map.FileMap.names_none.Goals as goal

pub returns : goal.returns
returns c = names_none c.self.inside.codes _ _ c.self.view_is c.name_no_record.ensures
