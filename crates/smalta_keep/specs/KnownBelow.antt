-- What is known of a table since its last snapshot.
use Rattle.std.specs.Prelude.{◌≡◌, List, [], Bool, Option, Some, None}
use Rattle.table_model.specs.Address.{Prefix}
use Rattle.table_model.specs.Width.{width}
use Rattle.table_model.specs.declared.family.Family.{Family}
use Rattle.table_model.specs.Entries.{Entries, of_family}
use Rattle.table_model.specs.Regions.{entry_at}
use Rattle.table_model.specs.Sets.{answers}
use Rattle.kept_model.specs.Stays.{Settled}
use Rattle.orig_tree.specs.Views.{Labels}

-- each region that is off the dirty prefixes has entries that a snapshot would leave as they are, under what it inherits
abbrev pub IsSettled : Family → Entries → Entries → Entries → Type 0
IsSettled f R T dirty = Settled (width f) (answers (of_family f R) []) (of_family f T) 0 (of_family f dirty)

-- that is known of a tree's routes and entries if there is a tree of dirty prefixes, whose entries are at the marked prefixes
abbrev pub IsKnown : Labels → Option Labels → Type 0
IsKnown kept None = Unit {0}
IsKnown kept (Some m) = (m.family ≡ kept.family) × IsSettled kept.family kept.routes kept.entries m.entries

-- the routes are the same in the family but at p
abbrev pub SameElse : Prefix → Family → Entries → Entries → Type 0
SameElse p f R S = (q : List Bool) → (q ≡ p.bits → ⊥) → entry_at q (of_family f R) ≡ entry_at q (of_family f S)

-- the same is known for routes that may be other ones at p
abbrev pub IsKnownBefore : Prefix → Labels → Option Labels → Type 0
IsKnownBefore p kept None = Unit {0}
IsKnownBefore p kept (Some m) = (m.family ≡ kept.family) × (R : Entries) × SameElse p kept.family R kept.routes × IsSettled kept.family R kept.entries m.entries
