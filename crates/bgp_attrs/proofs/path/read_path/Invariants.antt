use Rattle.std.proofs.Common.{◌+◌, ◌≤◌, length}
use Rattle.wire_model.specs.Path.{as_size, segment_at, path_of}
use Rattle.bgp_attrs.specs.Views.{path_as}
use Rattle.octet_fields.proofs.Steps.{Left}
use Rattle.bgp_attrs.proofs.path.read_path.Given as goal

abbrev pub invariant-loop-rest : goal.invariant-loop-rest
invariant-loop-rest l = record {
  bounded : l.path.length + length l.rest ≤ length l.bytes;
  left : Left (segment_at (as_size l.wide)) (path_as l.path) l.rest (path_of (as_size l.wide) l.bytes);
}

abbrev pub decreases-loop-rest : goal.decreases-loop-rest
decreases-loop-rest l = length l.rest
