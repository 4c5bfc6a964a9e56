-- What a processor does by itself with a reference, by the tables.
use Rattle.machine_tables.proofs.Prelude.{◌≡◌, ℕ, List, IfSome, seg_of, ActiveSegs, IsTree, Sdw, sdws_at, word_of, place_is, Cpu, Move, AreWords, IsLongEnough, next_move, Reference, Ptw, State, AreLong, Actions_move_of as move_of, arith}

-- the words of the active segments are those of their places
pub words_are : (ast : ActiveSegs) → IsTree ast.entries → AreWords ast (word_of ast)
words_are ast tree place uid at page = grind (arith, place_is)

pub long_for : (ast now : ActiveSegs) (cpu held : Cpu) (n : ℕ) → now ≡ ast → held ≡ cpu → AreLong ast cpu.assoc
    → IfSome (seg_of held.assoc n) (IsLongEnough now)
long_for ast now cpu held n a h long = rw (a, h) (long n)

pub move_is : (s : State) (k : ℕ) (r : Reference) (ast : ActiveSegs) (cpu held : Cpu) (ds : List Sdw) (m : Move)
    → ast ≡ s.store.ast → held ≡ cpu → ds ≡ sdws_at s.store.links.descriptors k → IsTree s.store.ast.entries
    → ((words : ℕ → ℕ → Ptw) → AreWords ast words → m ≡ next_move held.assoc ds words r) → m ≡ move_of s cpu k r
move_is s k r ast cpu held ds m a h d tree by = grind (arith, words_are)
