-- What a clause sees of rows.
use Rattle.std.specs.Prelude.{option_map}
use Rattle.fib_addr.specs.Views.{addr_as}
use Rattle.step_script.specs.Rows.{StepRow, opened, full, went_on, answered, not_open, prepared, pinned, busy, stored, ended, left, cancelled, late, nothing}
use Rattle.step_script.specs.declared.row.Row.{Row}
use Rattle.step_script.specs.declared.row.Row.TheVariants as row

abbrev pub step_row_as : Row → StepRow
step_row_as (row.Opened c) = opened c
step_row_as row.Full = full
step_row_as (row.WentOn c) = went_on c
step_row_as (row.Answered c hop) = answered c (option_map addr_as hop)
step_row_as (row.NotOpen c) = not_open c
step_row_as row.Prepared = prepared
step_row_as (row.Pinned c) = pinned c
step_row_as row.Busy = busy
step_row_as row.Stored = stored
step_row_as row.Ended = ended
step_row_as row.Left = left
step_row_as row.Cancelled = cancelled
step_row_as row.Late = late
step_row_as row.Nothing = nothing
