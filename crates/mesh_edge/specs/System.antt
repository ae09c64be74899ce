-- What the adapters over std hold, and what is known of them. They count no reads, writes and flushes.
use Rattle.std.specs.Prelude.{ℕ, List, Option, None}
use Rattle.mesh_edge.specs.Sink.{KnownSink}
use Rattle.mesh_edge.specs.Source.{KnownSource}
use Rattle.mesh_edge.specs.declared.system.StdSource.{StdSource}
use Rattle.mesh_edge.specs.declared.system.StdSink.{StdSink}

abbrev pub reader_of : {R : Type 0} → StdSource R → R
reader_of s = s.reader

abbrev pub read_faults_of : {R : Type 0} → StdSource R → ℕ
read_faults_of s = s.faults

-- by what a reader tells of the bytes that it will still give
abbrev pub known_source : {R : Type 0} → (R → Option (List ℕ)) → StdSource R → KnownSource
known_source remaining s = record { left = remaining s.reader; faults = s.faults; reads = 0 }

abbrev pub writer_of : {W : Type 0} → StdSink W → W
writer_of s = s.writer

abbrev pub write_faults_of : {W : Type 0} → StdSink W → ℕ
write_faults_of s = s.faults

-- by what a writer tells of the bytes that it has taken; what is flushed it doesn't tell
abbrev pub known_sink : {W : Type 0} → (W → Option (List ℕ)) → StdSink W → KnownSink
known_sink contents s = record { taken = contents s.writer; flushed = None; faults = s.faults; writes = 0; flushes = 0 }
