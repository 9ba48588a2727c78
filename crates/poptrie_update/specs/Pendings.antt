-- The token of a pending update.
use Rattle.std.specs.Prelude.{◌≡◌, Bool, true, false}
use Rattle.poptrie_set.specs.Lives.{IsTokenIn}
use Rattle.poptrie_update.specs.Lives.{Living, is_selecting}
use Rattle.poptrie_update.specs.declared.live.Other.{Other}
use Rattle.poptrie_update.specs.declared.live.Other.TheVariants as other
use Rattle.poptrie_update.specs.declared.pending.Pending.{Pending}
use Rattle.poptrie_update.specs.declared.pending.Stores.{Stores}
use Rattle.poptrie_update.specs.declared.pending.Stores.TheVariants as stores

abbrev pub is_of_selector : Stores → Bool
is_of_selector (stores.Words w) = false
is_of_selector (stores.Selector stored) = true

-- whether the update stores the selector
abbrev pub selects : Pending → Bool
selects p = is_of_selector p.stores

-- whether the selector was stored is what the state of the other set says
abbrev pub IsSelectorOf : Bool → Other → Type 0
IsSelectorOf stored other.Free = ⊥
IsSelectorOf stored (other.Retired end) = ⊥
IsSelectorOf stored other.Built = stored ≡ false
IsSelectorOf stored other.Replaced = stored ≡ true

abbrev pub IsTokenBy : Stores → Living → Type 0
IsTokenBy (stores.Words w) l = IsTokenIn w l.selected × (is_selecting l.state ≡ false)
IsTokenBy (stores.Selector stored) l = IsSelectorOf stored l.state

-- a token of the pending update
abbrev pub IsTokenOf : Pending → Living → Type 0
IsTokenOf p l = IsTokenBy p.stores l
