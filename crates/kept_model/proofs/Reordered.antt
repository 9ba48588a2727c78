-- Tables put in order have the same changes.
use Rattle.std.proofs.Common.{◌≡◌, List, [], ◌∷◌, ◌++◌, refl, sym, ap, ◌∙◌}
use Rattle.std.specs.List.{AllByRecursion}
use Rattle.std.specs.Map.{keys_of}
use Rattle.std.proofs.lemmas.List.Sums.{fold-append}
use Rattle.table_model.specs.Address.{Prefix, IsPrefix}
use Rattle.table_model.specs.Entries.{Entries, with_entry, in_order}
use Rattle.table_model.proofs.Once.{once_sorted}
use Rattle.route_model.proofs.Keyed.{same_entries}
use Rattle.route_model.proofs.Places.{prefix_key}
use Rattle.kept_model.specs.Between.{AreEntries, entry_hop_at, change_at, changes_at, between}
use Rattle.kept_model.proofs.Held.{first, hop_folded, hop_in_order, in_order_placed, all_both}

pub placed_entries : (L : Entries) → AllByRecursion IsPrefix (keys_of L) → AreEntries (in_order L)
placed_entries L a = let p = in_order_placed L a in (p.0, once_sorted (keys_of (in_order L)) p.1)

-- entries of two tables put in order: those of the second, and else those of the first
pub hop_of_both : (q : Prefix) (L M : Entries) → AreEntries L → AreEntries M → entry_hop_at q (in_order (L ++ M)) ≡ first (entry_hop_at q M) (entry_hop_at q L)
hop_of_both q L M a b =
    ap (entry_hop_at q) (fold-append with_entry [] L M) ∙ (hop_folded q M (in_order L) b.0 b.1 (in_order_placed L a.0).0 ∙ ap (first (entry_hop_at q M)) (hop_in_order q L a))

same_hops : (ps : List Prefix) (old old' new new' : Entries) → ((q : Prefix) → entry_hop_at q old ≡ entry_hop_at q old') → ((q : Prefix) → entry_hop_at q new ≡ entry_hop_at q new') → changes_at ps old new ≡ changes_at ps old' new'
same_hops [] old old' new new' h k = refl
same_hops (p ∷ ps) old old' new new' h k =
    ap (λ z. change_at p z (entry_hop_at p new) ++ changes_at ps old new) (h p) ∙ (ap (λ z. change_at p (entry_hop_at p old') z ++ changes_at ps old new) (k p) ∙ ap (λ z. change_at p (entry_hop_at p old') (entry_hop_at p new') ++ z) (same_hops ps old old' new new' h k))

pub between_in_order : (old new : Entries) → AreEntries old → AreEntries new → between (in_order old) (in_order new) ≡ between old new
unfolding between
between_in_order old new a b =
    let L = in_order old in
    let M = in_order new in
    let a' = placed_entries old a.0 in
    let b' = placed_entries new b.0 in
    let low = in_order_placed (L ++ M) (all_both IsPrefix L M a'.0 b'.0) in
    let high = in_order_placed (old ++ new) (all_both IsPrefix old new a.0 b.0) in
    let same : in_order (L ++ M) ≡ in_order (old ++ new) = same_entries prefix_key (in_order (L ++ M)) (in_order (old ++ new)) low.1 high.1 low.0 high.0
    (λ q. hop_of_both q L M a' b' ∙ (ap (λ o. first o (entry_hop_at q L)) (hop_in_order q new b) ∙ (ap (first (entry_hop_at q new)) (hop_in_order q old a) ∙ sym (hop_of_both q old new a b))))
    in
    ap (λ (E : Entries). changes_at (keys_of E) L M) same ∙ same_hops (keys_of (in_order (old ++ new))) L old M new (λ q. hop_in_order q old a) (λ q. hop_in_order q new b)
