use Rattle.std.proofs.Common.{◌≡◌, ◌-◌, ◌++◌, length, replicate, vec_len, vec_capacity}
use Rattle.buddy_arena.proofs.arena.fill_up.Given as goal

abbrev pub invariant-loop-i : goal.invariant-loop-i
invariant-loop-i g l = record {
  items : l.cells.items ≡ l.fn.cells.items ++ replicate (l.i - length l.fn.cells.items) l.value;
  len : vec_len l.cells ≡ l.i;
  capacity : vec_capacity l.cells ≡ vec_capacity l.fn.cells;
}
