-- What is seen of a source over a reader, and of a sink over a writer. (own)
use Rattle.std.specs.Prelude.{ℕ}
use Rattle.site_io.specs.declared.standard.StdSource.{StdSource}
use Rattle.site_io.specs.declared.standard.StdSink.{StdSink}

-- the reader that gives a source's bytes
abbrev pub reader_of : {R : Type 0} → StdSource R → R
reader_of source = source.reader

-- how many errors its reads had, up to 2 ^ 64 - 1
abbrev pub read_faults : {R : Type 0} → StdSource R → ℕ
read_faults source = source.faults

-- the writer that takes a sink's bytes
abbrev pub writer_of : {W : Type 0} → StdSink W → W
writer_of sink = sink.writer

-- how many errors its writes had, up to 2 ^ 64 - 1
abbrev pub write_faults : {W : Type 0} → StdSink W → ℕ
write_faults sink = sink.faults
