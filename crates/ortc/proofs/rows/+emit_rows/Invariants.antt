use Rattle.ortc.proofs.rows.+emit_rows.Given as goal

abbrev pub decreases-emit_rows : goal.decreases-emit_rows
decreases-emit_rows g l = l.region.now.bits
