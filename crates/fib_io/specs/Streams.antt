-- What sinks over streams are: writers that are flushed.
use Rattle.fib_io.specs.declared.streams.StdSink.{StdSink}

-- the writer of a sink
abbrev pub writer_of : {W : Type 0} → StdSink W → W
writer_of sink = sink.inner
