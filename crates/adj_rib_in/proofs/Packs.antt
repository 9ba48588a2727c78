-- Path keys, ranks, offers and rows made of their parts are what clauses see.
use Rattle.std.proofs.Common.{◌≡◌, ℕ, ◌<◌, ◌≤◌, ◌-◌, ◌^◌, ◌%◌, ap, sym, subst, ◌∙◌}
use Rattle.std.specs.Coded.{le_prop, Coded-set, coded_ℕ}
use Rattle.table_model.specs.Width.{width}
use Rattle.fib_addr.specs.declared.addr.Addr.{Addr}
use Rattle.fib_prefix.specs.declared.event.Via.{Via}
use Rattle.fib_addr.specs.declared.prefix.Prefix.{Prefix}
use Rattle.adj_rib_in.specs.Keys.{PathKeyView, RankView, PathAttrsView}
use Rattle.adj_rib_in.specs.Rows.{RowKey}

addr_packed : (h : Addr) (b : h.bits < 2 ^ width h.family) → (let r : Addr = record { family = h.family; bits = h.bits; below = b } in r) ≡ h
addr_packed h b = ap (λ (x : h.bits < 2 ^ width h.family). let r : Addr = record { family = h.family; bits = h.bits; below = x } in r) (le_prop b h.below)

prefix_packed : (p : Prefix) (f : p.len ≤ width p.family) (b : p.bits < 2 ^ width p.family) (c : p.bits % 2 ^ (width p.family - p.len) ≡ 0) → (let r : Prefix = record { family = p.family; bits = p.bits; len = p.len; fits = f; below = b; cleared = c } in r) ≡ p
prefix_packed p f b c =
    ap (λ (x : p.len ≤ width p.family). let r : Prefix = record { family = p.family; bits = p.bits; len = p.len; fits = x; below = b; cleared = c } in r) (le_prop f p.fits)
    ∙ (ap (λ (x : p.bits < 2 ^ width p.family). let r : Prefix = record { family = p.family; bits = p.bits; len = p.len; fits = p.fits; below = x; cleared = c } in r) (le_prop b p.below)
    ∙ ap (λ (x : p.bits % 2 ^ (width p.family - p.len) ≡ 0). let r : Prefix = record { family = p.family; bits = p.bits; len = p.len; fits = p.fits; below = p.below; cleared = x } in r) (Coded-set coded_ℕ _ _ c p.cleared))

abbrev packed_via : Via → Addr → Via
packed_via v a = record { peer = record { addr = a; asn = v.peer.asn }; id = v.id }

pub key_packed : (v : Via) (p : Prefix) (a : v.peer.addr.bits < 2 ^ width v.peer.addr.family) (f : p.len ≤ width p.family) (b : p.bits < 2 ^ width p.family) (c : p.bits % 2 ^ (width p.family - p.len) ≡ 0)
    → (let r : PathKeyView = record { via = packed_via v (record { family = v.peer.addr.family; bits = v.peer.addr.bits; below = a }); prefix = record { family = p.family; bits = p.bits; len = p.len; fits = f; below = b; cleared = c } } in r) ≡ record { via = v; prefix = p }
key_packed v p a f b c =
    ap (λ (x : Addr). let r : PathKeyView = record { via = packed_via v x; prefix = record { family = p.family; bits = p.bits; len = p.len; fits = f; below = b; cleared = c } } in r) (addr_packed v.peer.addr a)
    ∙ ap (λ (x : Prefix). let r : PathKeyView = record { via = v; prefix = x } in r) (prefix_packed p f b c)

pub rank_packed : (v : Via) (p : Prefix) (n : ℕ) (a : v.peer.addr.bits < 2 ^ width v.peer.addr.family) (f : p.len ≤ width p.family) (b : p.bits < 2 ^ width p.family) (c : p.bits % 2 ^ (width p.family - p.len) ≡ 0)
    → (let r : RankView = record { prefix = record { family = p.family; bits = p.bits; len = p.len; fits = f; below = b; cleared = c }; path = n; via = packed_via v (record { family = v.peer.addr.family; bits = v.peer.addr.bits; below = a }) } in r) ≡ record { prefix = p; path = n; via = v }
rank_packed v p n a f b c =
    ap (λ (x : Addr). let r : RankView = record { prefix = record { family = p.family; bits = p.bits; len = p.len; fits = f; below = b; cleared = c }; path = n; via = packed_via v x } in r) (addr_packed v.peer.addr a)
    ∙ ap (λ (x : Prefix). let r : RankView = record { prefix = x; path = n; via = v } in r) (prefix_packed p f b c)

pub attrs_packed : (n : ℕ) (h : Addr) (b : h.bits < 2 ^ width h.family) → (let r : PathAttrsView = record { path = n; hop = record { family = h.family; bits = h.bits; below = b } } in r) ≡ record { path = n; hop = h }
attrs_packed n h b = ap (λ (x : Addr). let r : PathAttrsView = record { path = n; hop = x } in r) (addr_packed h b)

pub row_packed : (p : Prefix) (n : ℕ) (f : p.len ≤ width p.family) (b : p.bits < 2 ^ width p.family) (c : p.bits % 2 ^ (width p.family - p.len) ≡ 0)
    → (let r : RowKey = record { prefix = record { family = p.family; bits = p.bits; len = p.len; fits = f; below = b; cleared = c }; off = n } in r) ≡ record { prefix = p; off = n }
row_packed p n f b c = ap (λ (x : Prefix). let r : RowKey = record { prefix = x; off = n } in r) (prefix_packed p f b c)

-- the same of bits that come in another form
pub row_halves : (p : Prefix) (n b : ℕ) → b ≡ p.bits → (f : p.len ≤ width p.family) (l : b < 2 ^ width p.family) (c : b % 2 ^ (width p.family - p.len) ≡ 0)
    → (let r : RowKey = record { prefix = record { family = p.family; bits = b; len = p.len; fits = f; below = l; cleared = c }; off = n } in r) ≡ record { prefix = p; off = n }
row_halves p n b e f = subst (λ (m : ℕ). (l : m < 2 ^ width p.family) (c : m % 2 ^ (width p.family - p.len) ≡ 0) → (let r : RowKey = record { prefix = record { family = p.family; bits = m; len = p.len; fits = f; below = l; cleared = c }; off = n } in r) ≡ record { prefix = p; off = n }) (sym e) (λ l c. row_packed p n f l c)
