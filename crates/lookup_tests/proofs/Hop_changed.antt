-- A table of one route, and the same route to another hop.
use Rattle.std.proofs.Common.{◌≡◌, ℕ, List, [], ◌∷◌, Bool, true, false, cond, refl, sym, ap, ◌∙◌}
use Rattle.std.specs.Prelude.{◌&&◌}
use Rattle.table_model.specs.Bits.{begins}
use Rattle.table_model.specs.Address.{Prefix, contains, same_family}
use Rattle.table_model.specs.declared.family.Family.{Family}
use Rattle.table_model.specs.declared.family.Family.TheVariants.{V4, V6}
use Rattle.table_model.specs.Table.{Entry, hop_or, longest}
use Rattle.table_model.specs.Entries.{match_in}
use Rattle.poptrie_set.specs.Prepares.{AgreeOutside}

abbrev one_hop : List Bool → ℕ → Bool → ℕ
one_hop p h b = hop_or 0 (longest (cond b ((let e : Entry = record { prefix = p; hop = h } in e) ∷ []) []))

missed : (p : List Bool) (h : ℕ) (b : Bool) → b ≡ false → one_hop p h b ≡ 0
missed p h true e = cc
missed p h false e = refl

outside : (f g : Family) (p a : List Bool) (h : ℕ) → (same_family f g && begins p a) ≡ false → match_in ((record { family = f; bits = p }, h) ∷ []) (record { family = g; bits = a }) ≡ 0
outside V4 V4 p a h e = missed p h (begins p a) e
outside V6 V6 p a h e = missed p h (begins p a) e
outside V4 V6 p a h e = refl
outside V6 V4 p a h e = refl

pub hop_changed : (p q : Prefix) (h k : ℕ) → p ≡ q → AgreeOutside q ((p, h) ∷ []) ((q, k) ∷ [])
hop_changed p q h k e = λ a is f c. outside q.family a.family q.bits a.bits k c ∙ sym (outside p.family a.family p.bits a.bits h (ap (λ (r : Prefix). contains r a) e ∙ c))
