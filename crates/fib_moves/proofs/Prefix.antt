-- The event's prefix, where the table answered as the routes before the event.
use Rattle.std.proofs.Common.{◌≡◌, ℕ, ◌+◌, List, Bool, true, false, sym, ap, subst, ◌∙◌, length, arith}
use Rattle.table_model.specs.Bits.{begins}
use Rattle.table_model.specs.Address.{Prefix}
use Rattle.table_model.specs.Width.{width}
use Rattle.table_model.specs.Table.{Table, IsTable, cut}
use Rattle.table_model.specs.Entries.{of_family}
use Rattle.table_model.specs.Regions.{SameOutside, above}
use Rattle.table_model.specs.Sets.{answers}
use Rattle.fib_addr.specs.Views.{prefix_as}
use Rattle.fib_addr.specs.declared.prefix.Prefix as code
use Rattle.orig_tree.specs.Views.{Labels}
use Rattle.orig_tree.specs.Spots.{Spot, spot_answers}
use Rattle.moves_model.specs.Way.{SameBut, AlikeBeside}
use Rattle.moves_model.proofs.Event.{alike_beside}
use Rattle.moves_model.proofs.Within.{filled_event}
use Rattle.fib_moves.specs.declared.place.Place.{Place}
use Rattle.fib_moves.specs.declared.way.Way.{Way}
use Rattle.fib_moves.specs.Needs.{IsNodeOf}
use Rattle.fib_moves.specs.Ways.{IsWay}
use Rattle.fib_moves.proofs.Turns.{self, bits_long}
use Rattle.fib_moves.specs.Event.{AlikeBefore}
use Rattle.fib_moves.specs.Found.{HalvesGive}
use Rattle.fib_moves.proofs.Settled.{event_gives}

same_outside : (p : List Bool) (R S : Table) → SameBut p R S → SameOutside p R S
same_outside p R S s q n = s q (λ e. let z : true ≡ false = sym (self p) ∙ (ap (begins p) (sym e) ∙ n) in absurd cc)

pub before_beside : (w : ℕ) (p : List Bool) (S T : Table) → AlikeBefore w p S T → AlikeBeside w p S T
before_beside w p S T x = alike_beside w x.before S T p x.alike (same_outside p x.before S x.same)

-- the place of the prefix
module _ (k : Labels) (p : code.Prefix) (w : Way) (s : Spot) (v : IsWay k.family (of_family k.family k.routes) (of_family k.family k.entries) (prefix_as p).bits w)
    (n : s.bits + p.len ≡ width k.family) (a : (y : List Bool) → spot_answers s y ≡ answers (of_family k.family k.routes) (prefix_as p).bits y)
    (e : s.entries ≡ cut (prefix_as p).bits (of_family k.family k.entries)) where
  abbrev q : Place
  q = record { region = s; node = w.place.node }

  entries_are : w.place.region.entries ≡ s.entries
  entries_are = v.entries ∙ sym e

  bits_are : w.place.region.bits ≡ s.bits
  bits_are = omega (arith, v.bits, n, bits_long w.at, bits_long p, ap (λ (q : Prefix). length q.bits) v.at)

  pub prefix_place : IsNodeOf q
  prefix_place = record {
    node = v.place.node ∙ entries_are;
    table = subst (λ (L : Table). IsTable s.bits L) entries_are (subst (λ (d : ℕ). IsTable d w.place.region.entries) bits_are v.place.table);
  }

  pub prefix_gives : AlikeBefore (width k.family) (prefix_as p).bits (of_family k.family k.routes) (of_family k.family k.entries) → HalvesGive q w.comes
  prefix_gives x =
      event_gives q w.comes (above (prefix_as p).bits (of_family k.family k.entries) 0) (answers (of_family k.family k.routes) (prefix_as p).bits) (cut (prefix_as p).bits (of_family k.family k.routes)) (cut (prefix_as p).bits (of_family k.family k.entries))
      (λ b d m. filled_event (width k.family) x.before (of_family k.family k.routes) (of_family k.family k.entries) (prefix_as p).bits b d (omega (arith, m, n, bits_long p)) x.alike x.same)
      a v.routes e v.comes
