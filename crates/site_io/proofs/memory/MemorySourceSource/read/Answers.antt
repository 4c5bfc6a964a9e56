use Rattle.std.proofs.Common.{◌≡◌, ◌+◌, ◌-◌, ◌∙◌, ap, arith, take, drop}
use Rattle.std.proofs.lemmas.List.{drop_all}
use Rattle.site_io.specs.Memory.{SourceState}
use Rattle.site_io.proofs.Moves.{read_gives}
use Rattle.site_io.proofs.memory.MemorySourceSource.read.Goals as goal

pub returns-clause-bytes : goal.returns-clause-bytes
returns-clause-bytes c =
    let view : drop c.self.inside.next c.self.inside.bytes.items ≡ c.args.self.now.left =
    ap (λ (s : SourceState). s.left) c.self.view_is in
    let size : c.self.inside.next + c.min-count.result - c.self.inside.next ≡ c.min-count.result = omega arith in
    let got : c.copy_from_slice.new.self ≡ take c.min-count.result (drop c.self.inside.next c.self.inside.bytes.items)
    = c.copy_from_slice.ensures.after ∙ (cc) in (
      read_gives c.self.inside.bytes.items c.args.buf.now c.copy_from_slice.new.self c.args.self.now.left
          c.self.inside.next c.min-count.result view got (omega arith),
      λ none some. drop_all (c.self.inside.next + c.min-count.result) c.self.inside.bytes.items (omega arith),
    )
