-- Covers as nodes keep them.
use Rattle.std.specs.Prelude.{ℕ, true, Option, None}
use Rattle.orig_tree.specs.declared.cover.Cover.{Cover}
use Rattle.orig_tree.specs.declared.cover.Kept.{Kept}
use Rattle.orig_tree.specs.declared.cover.Slot.{Slot}
use Rattle.orig_tree.specs.declared.cover.Kind.{Kind}
use Rattle.orig_tree.specs.declared.cover.Kind.TheVariants.{Empty, Single, Mixed}
use Rattle.orig_tree.specs.declared.cover.Hops.{Hops}
use Rattle.orig_tree.specs.declared.cover.Hops.TheVariants.{Zero, One, Many}

abbrev pub opened_hops : Kind → ℕ → Hops
opened_hops Empty h = Zero
opened_hops Single h = One h
opened_hops Mixed h = Many

-- the cover that is kept
abbrev pub opened : Kept → Cover
opened k = record { passes = k.passes; hops = opened_hops k.kind k.hop }

abbrev pub packed : Cover → Hops → Kept
packed c Zero = record { passes = c.passes; kind = Empty; hop = 0 }
packed c (One h) = record { passes = c.passes; kind = Single; hop = h }
packed c Many = record { passes = c.passes; kind = Mixed; hop = 0 }

-- a hop with a cover
abbrev pub cover_slot : Option ℕ → Cover → Slot
cover_slot hop c = record { hop = hop; kept = packed c c.hops }

-- the cover of a slot
abbrev pub cover_in : Slot → Cover
cover_in s = opened s.kept

abbrev pub bare_slot : Slot
bare_slot = record { hop = None; kept = record { passes = true; kind = Empty; hop = 0 } }
