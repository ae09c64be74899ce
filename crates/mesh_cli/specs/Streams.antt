-- What is known of the three streams of a run.
use Rattle.mesh_edge.specs.Sink.{KnownSink}
use Rattle.mesh_edge.specs.Source.{KnownSource}

pub record Streams : Type 0 where
  pub input : KnownSource
  pub output : KnownSink
  pub notes : KnownSink
