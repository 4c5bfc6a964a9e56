use Rattle.page_control.proofs.Moved.{Rehomes, ap, bindings_same, map_now, page_moved, plain, reads_same, size_rehomed, table_now, tie_moved, ties_same, word_rehomed, words_same}
use Rattle.page_control.proofs.pages.Pages.rehome.Goals as goal

-- what its steps left
rehomes : (g : _) (c : goal.After-rehome_all g) → Rehomes (plain g.D.Drive.pages c.args.self.now) (plain g.D.Drive.pages
    c.rehome_all.new.self) c.args.t.now c.rehome_all.new.t c.args.uid c.args.home
rehomes g c = assumption (ap (plain g.D.Drive.pages) c.rehome_all.ensures.effect)

pub returns : goal.returns
returns g c = assumption (
  table_now (rehomes g c),
  map_now (rehomes g c),
  size_rehomed (rehomes g c),
  word_rehomed (rehomes g c),
  tie_moved (rehomes g c),
  page_moved (rehomes g c),
  words_same (rehomes g c),
  ties_same (rehomes g c),
  bindings_same (rehomes g c),
  reads_same (rehomes g c),
)
