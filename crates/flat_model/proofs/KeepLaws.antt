-- Nodes are changed, but for what they are and where they lie.
use Rattle.flat_model.proofs.Prelude.{arith, common_steps, nat_tests, ◌≡◌, ℕ, ◌+◌, ◌-◌, cond, eqb, not, List, map, refl, ap, Row, with_quota_of, Node, has_directory, volume_in, has_segment}
use Rattle.flat_model.proofs.FieldLaws.{field_kept, field_mapped}

-- a change of a node keeps what it is and where it lies
pub record Keeps (f : Node → Node) : Type 0 where
  pub uid : (n : Node) → (f n).uid ≡ n.uid
  pub superior : (n : Node) → (f n).superior ≡ n.superior
  pub volume : (n : Node) → (f n).volume ≡ n.volume
  pub kind : (n : Node) → (f n).directory ≡ n.directory

module _ (f : Node → Node) (keeps : Keeps f) where
  pub volume_map : (ns : List Node) (u : ℕ) → volume_in (map f ns) u ≡ volume_in ns u
  volume_map ns u = field_mapped (λ (xs : List Node). volume_in xs u) (λ (x : Node). x.volume) u (λ m xs. refl) f
      keeps.uid keeps.volume ns

  pub segment_map : (ns : List Node) (u : ℕ) → has_segment (map f ns) u ≡ has_segment ns u
  segment_map ns u = field_mapped (λ (xs : List Node). has_segment xs u) (λ (x : Node). not x.directory) u
      (λ m xs. refl) f keeps.uid (λ n. ap not (keeps.kind n)) ns

  pub directory_map : (ns : List Node) (u : ℕ) → has_directory (map f ns) u ≡ has_directory ns u
  directory_map ns u = field_mapped (λ (xs : List Node). has_directory xs u) (λ (x : Node). x.directory) u
      (λ m xs. refl) f keeps.uid keeps.kind ns

-- a change of one node
pub keeps_one : (u : ℕ) (f : Node → Node) → Keeps f → Keeps (λ n. cond (eqb n.uid u) (f n) n)
keeps_one u f keeps = grind (arith, nat_tests, common_steps, field_kept)

pub keeps_rows : (change : List Row → List Row) → Keeps (λ n. record n { rows = change n.rows })
keeps_rows change = record { uid = λ n. refl; superior = λ n. refl; volume = λ n. refl; kind = λ n. refl }

pub keeps_length : (pages : ℕ) → Keeps (λ n. record n { pages = pages })
keeps_length pages = record { uid = λ n. refl; superior = λ n. refl; volume = λ n. refl; kind = λ n. refl }

keeps_quota : (u : ℕ) (change : ℕ → ℕ) → Keeps (with_quota_of u change)
keeps_quota u change = keeps_one u (λ n. record n { quota = change n.quota })
    (record { uid = λ n. refl; superior = λ n. refl; volume = λ n. refl; kind = λ n. refl })

keeps_both : (f g : Node → Node) → Keeps f → Keeps g → Keeps (λ n. f (g n))
keeps_both f g x y = grind (arith, nat_tests, common_steps)

-- a node once quota has moved from one to another
abbrev pub quota_moved : ℕ → ℕ → ℕ → Node → Node
quota_moved giver getter pages n = with_quota_of giver (λ q. q - pages) (with_quota_of getter (λ q. q + pages) n)

pub keeps_moved : (giver getter pages : ℕ) → Keeps (quota_moved giver getter pages)
keeps_moved giver getter pages = grind (arith, nat_tests, common_steps, keeps_both, keeps_quota)

pub moved_else : {X : Type 0} (field : Node → X) → ((n : Node) (q : ℕ) → field (record n { quota = q }) ≡ field n)
    → (giver getter pages : ℕ) (n : Node) → field (quota_moved giver getter pages n) ≡ field n
moved_else field same giver getter pages n = grind (arith, nat_tests, common_steps)
