-- Marks of where the routes changed since the last snapshot, and what is known of the table beside them.
use Rattle.std.specs.Prelude.{◌≡◌, ◌-◌, ◌⊎◌, [], Bool, true, false, Option, Some, None, length}
use Rattle.table_model.specs.Address.{Prefix}
use Rattle.table_model.specs.declared.family.Family.{Family}
use Rattle.table_model.specs.Width.{width}
use Rattle.table_model.specs.Table.{Table, cut}
use Rattle.table_model.specs.Entries.{Entries, of_family}
use Rattle.table_model.specs.Regions.{above, entry_at, SameOutside}
use Rattle.table_model.specs.Sets.{answers}
use Rattle.kept_model.specs.Stays.{Stays, Settled, is_wide_mark, HasMarks, IsMarked, GetsMark}
use Rattle.orig_tree.specs.Views.{Labels}
use Rattle.smalta_keep.specs.KnownBelow.{IsSettled, IsKnown, IsKnownBefore}

-- the dirty prefixes, if there are any, are of the family
abbrev pub IsOfFamily : Family → Option Labels → Type 0
IsOfFamily f None = Unit {0}
IsOfFamily f (Some m) = f ≡ m.family

-- the prefix is marked wide, and what was marked still is; without dirty prefixes everything counts as marked wide
abbrev pub IsTouched : Prefix → Option Labels → Option Labels → Type 0
IsTouched p old None = Unit {0}
IsTouched p None (Some n) = ⊥
IsTouched p (Some m) (Some n) = (n.family ≡ m.family) × IsMarked p.bits (of_family m.family m.entries) (of_family m.family n.entries)

-- the same of a prefix, if there is one
abbrev pub IsTouchedAt : Option Prefix → Option Labels → Option Labels → Type 0
IsTouchedAt None old new = new ≡ old
IsTouchedAt (Some p) old new = IsTouched p old new

-- the prefix is marked, maybe wide no more, and the other dirty prefixes are as they were
abbrev pub IsEased : Prefix → Option Labels → Option Labels → Type 0
IsEased p old None = Unit {0}
IsEased p None (Some n) = ⊥
IsEased p (Some m) (Some n) = (n.family ≡ m.family) × GetsMark p.bits (of_family m.family m.entries) (of_family m.family n.entries)

-- the same of a prefix, if there is one
abbrev pub IsEasedAt : Option Prefix → Option Labels → Option Labels → Type 0
IsEasedAt None old new = new ≡ old
IsEasedAt (Some p) old new = IsEased p old new

-- what was marked still is
abbrev pub AreMore : Option Labels → Option Labels → Type 0
AreMore old None = Unit {0}
AreMore None (Some n) = ⊥
AreMore (Some m) (Some n) = (n.family ≡ m.family) × HasMarks (of_family m.family m.entries) (of_family m.family n.entries)

-- what was marked still is, and the prefix, if there is one, is marked wide
abbrev pub AreWide : Option Prefix → Option Labels → Option Labels → Type 0
AreWide None old new = AreMore old new
AreWide (Some p) old new = IsTouched p old new

-- there is a prefix, and it is the whole space
abbrev pub IsWholeSpace : Option Prefix → Type 0
IsWholeSpace None = ⊥
IsWholeSpace (Some p) = p.bits ≡ []

-- after a snapshot the dirty prefixes, if there are any, are of the family; else the plan's prefix, if it has one, is marked as well, and wide
-- if the repair was one of the fewest changes; after any other repair of the whole space it is as after a snapshot
abbrev pub AreLeft : Bool → Bool → Family → Option Prefix → Option Labels → Option Labels → Type 0
AreLeft true fewest f at old new = IsOfFamily f new
AreLeft false true f at old new = IsTouchedAt at old new
AreLeft false false f at old new = IsEasedAt at old new ⊎ (IsWholeSpace at × IsOfFamily f new)

-- the prefix that is held once a plan is made: the plan's own, unless a snapshot follows or the changes are to be the fewest
abbrev pub held_place : {A : Type 0} → Bool → Bool → Option A → Option A
held_place true fewest at = None
held_place false true at = None
held_place false false at = at

-- what a plan leaves: what was marked still is and its prefix, if it has one, is marked wide; or, if it is held, it is marked
abbrev pub AreNoted : Bool → Bool → Option Prefix → Option Labels → Option Labels → Type 0
AreNoted true fewest at old new = AreWide at old new
AreNoted false true at old new = AreWide at old new
AreNoted false false at old new = IsEasedAt at old new

-- what making a plan's changes leaves if a prefix was held: if they are those of a repair there all stays, else it was marked
-- wide first
abbrev pub AreLeftHeld : Bool → Bool → Family → Option Prefix → Option Prefix → Option Labels → Option Labels → Type 0
AreLeftHeld due fewest f at held old new =
    ((mid : Option Labels) × IsTouchedAt held old mid × AreLeft due fewest f at mid new)
    ⊎ ((due ≡ false) × (fewest ≡ false) × (held ≡ at) × (new ≡ old))

-- what is off the dirty prefixes is clean, if a prefix that is held, if there is one, counts as one of them in any way that serves
abbrev pub IsKnownHeld : Option Prefix → Labels → Option Labels → Type 0
IsKnownHeld None kept touched = IsKnown kept touched
IsKnownHeld (Some p) kept None = Unit {0}
IsKnownHeld (Some p) kept (Some n) =
    (n.family ≡ kept.family) × (p.family ≡ kept.family) × (M : Table) × GetsMark p.bits M (of_family kept.family n.entries)
    × Settled (width kept.family) (answers (of_family kept.family kept.routes) []) (of_family kept.family kept.entries) 0 M

-- p is marked wide, and what is off the dirty prefixes is clean; without p, the latter
abbrev pub KnownAt : Option Prefix → Labels → Option Labels → Type 0
KnownAt None kept touched = IsKnown kept touched
KnownAt (Some p) kept None = Unit {0}
KnownAt (Some p) kept (Some n) = (n.family ≡ kept.family) × (is_wide_mark (entry_at p.bits (of_family kept.family n.entries)) ≡ true) × IsSettled kept.family kept.routes kept.entries n.entries

-- if the repair at this prefix, if there is one, isn't to have the fewest changes, what is off the dirty prefixes is clean for routes that
-- differ at the prefix alone
abbrev pub IsKnownToMend : Bool → Option Prefix → Labels → Option Labels → Type 0
IsKnownToMend true at kept touched = Unit {0}
IsKnownToMend false None kept touched = Unit {0}
IsKnownToMend false (Some p) kept touched = IsKnownBefore p kept touched

-- for the routes R a pass over the prefix, if there is one, leaves what T has there
abbrev pub StaysAt : Option Prefix → Family → Entries → Entries → Type 0
StaysAt None f R T = Unit {0}
StaysAt (Some p) f R T = Stays (width f - length p.bits) (answers (of_family f R) p.bits) (cut p.bits (of_family f T)) (above p.bits (of_family f T) 0)

-- the entries are the same but within this prefix, if there is one
abbrev pub SameBeside : Option Prefix → Family → Entries → Entries → Type 0
SameBeside None f old new = new ≡ old
SameBeside (Some p) f old new = SameOutside p.bits (of_family f old) (of_family f new)
