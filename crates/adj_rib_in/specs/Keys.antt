-- What clauses see of path keys, ranks and offers.
use Rattle.std.specs.Prelude.{ℕ}
use Rattle.fib_addr.specs.declared.addr.Addr.{Addr}
use Rattle.fib_prefix.specs.declared.event.Via.{Via}
use Rattle.fib_addr.specs.declared.prefix.Prefix.{Prefix}

pub record PathKeyView : Type 0 where
  pub via : Via
  pub prefix : Prefix

pub record RankView : Type 0 where
  pub prefix : Prefix
  pub path : ℕ
  pub via : Via

pub record PathAttrsView : Type 0 where
  pub path : ℕ
  pub hop : Addr
