use Rattle.std.proofs.Common.{◌≡◌, ◌+◌, false, true, take}
use Rattle.table_model.specs.Table.{root, half}
use Rattle.cert_check.specs.Runs.{parts_table}
use Rattle.cert_check.proofs.runs.deal.Given as goal

abbrev pub invariant-loop-part : goal.invariant-loop-part
invariant-loop-part l =
    (l.halves.own ≡ root (parts_table (l.left + 1) (take l.part-index l.part-items))) × (parts_table l.left l.halves.low.items ≡ half false (parts_table (l.left + 1) (take l.part-index l.part-items)))
    × (parts_table l.left l.halves.high.items ≡ half true (parts_table (l.left + 1) (take l.part-index l.part-items)))
