-- What is known of a source and a sink that never fail.
use Rattle.std.specs.Prelude.{ℕ, List, Some, None}
use Rattle.mesh_edge.specs.Sink.{KnownSink}
use Rattle.mesh_edge.specs.Source.{KnownSource}

-- of a clean source with these bytes left
abbrev pub known_source : List ℕ → KnownSource
known_source left = record { left = Some left; faults = 0; reads = 0 }

-- of a clean sink, which tells no bytes
abbrev pub known_sink : KnownSink
known_sink = record { taken = None; flushed = None; faults = 0; writes = 0; flushes = 0 }
