-- The changes between two tables in order, from the first entries on.
use Rattle.std.proofs.Common.{◌≡◌, ℕ, List, [], ◌∷◌, ◌++◌, false, cond, Some, None, refl, sym, ap, ◌∙◌}
use Rattle.std.specs.Prelude.{fold}
use Rattle.std.specs.List.{AllByRecursion}
use Rattle.std.specs.Map.{keys_of}
use Rattle.std.specs.Ordering.{match_ordering, ordering_reverse}
use Rattle.std.specs.declared.cmp.Ordering.TheVariants.{Less, Equal, Greater}
use Rattle.std.specs.BTreeMap.{insert_entry}
use Rattle.std.proofs.lemmas.Cmp.{tied_itself}
use Rattle.std.proofs.lemmas.List.Sums.{fold-append}
use Rattle.table_model.specs.Address.{Prefix, same_prefix}
use Rattle.table_model.specs.Order.{prefix_cmp}
use Rattle.table_model.proofs.Ordered.{prefix_total}
use Rattle.table_model.specs.Entries.{Entries, with_entry, in_order}
use Rattle.table_model.specs.Changes.{Add, Remove}
use Rattle.route_model.proofs.Keyed.{lookup-below, not_same_greater}
use Rattle.route_model.proofs.Places.{prefix_key}
use Rattle.kept_model.specs.Between.{entry_hop_at, change_at, changes_at, between}
use Rattle.kept_model.proofs.Held.{all_folded, all_both}

-- the prefix is before all of the entries
abbrev pub Below : Prefix → Entries → Type 0
Below p L = AllByRecursion (λ q. prefix_cmp p q ≡ Less) (keys_of L)

greater : (p q : Prefix) → prefix_cmp p q ≡ Less → prefix_cmp q p ≡ Greater
greater p q l = prefix_total.antisymm q p ∙ ap ordering_reverse l

-- ---- entries put in order, the first of them taken out

first_stays : (e : Prefix × ℕ) (L T : Entries) → Below e.0 L → fold with_entry (e ∷ T) L ≡ e ∷ fold with_entry T L
first_stays e [] T b = refl
first_stays e (f ∷ L) T b =
    ap (λ M. fold with_entry M L) (ap (λ o. match_ordering o (f ∷ e ∷ T) ((e.0, f.1) ∷ T) (e ∷ insert_entry prefix_cmp T f.0 f.1)) (greater e.0 f.0 b.0)) ∙ first_stays e L (with_entry T f) b.1

put_first : (f : Prefix × ℕ) (T : Entries) → Below f.0 T → with_entry T f ≡ f ∷ T
put_first f [] b = refl
put_first f (e ∷ T) b = ap (λ o. match_ordering o (f ∷ e ∷ T) ((e.0, f.1) ∷ T) (e ∷ insert_entry prefix_cmp T f.0 f.1)) b.0

put_over : (e f : Prefix × ℕ) (T : Entries) → e.0 ≡ f.0 → with_entry (e ∷ T) f ≡ (e.0, f.1) ∷ T
put_over e f T s =
    let c : prefix_cmp f.0 e.0 ≡ Equal = ap (prefix_cmp f.0) s ∙ tied_itself prefix_total f.0 in
    ap (λ o. match_ordering o (f ∷ e ∷ T) ((e.0, f.1) ∷ T) (e ∷ insert_entry prefix_cmp T f.0 f.1)) c

-- ---- changes past an entry

past : (p q : Prefix) → prefix_cmp p q ≡ Less → same_prefix q p ≡ false
past p q l = not_same_greater prefix_key p q l

skip : (ps : List Prefix) (e : Prefix × ℕ) (old old' new new' : Entries) → AllByRecursion (λ q. prefix_cmp e.0 q ≡ Less) ps
    → ((q : Prefix) → same_prefix q e.0 ≡ false → entry_hop_at q old' ≡ entry_hop_at q old) → ((q : Prefix) → same_prefix q e.0 ≡ false → entry_hop_at q new' ≡ entry_hop_at q new) → changes_at ps old' new' ≡ changes_at ps old new
skip [] e old old' new new' b h k = refl
skip (p ∷ ps) e old old' new new' b h k =
    let n = past e.0 p b.0 in
    ap (λ z. change_at p z (entry_hop_at p new') ++ changes_at ps old' new') (h p n) ∙ (ap (λ z. change_at p (entry_hop_at p old) z ++ changes_at ps old' new') (k p n) ∙ ap (λ z. change_at p (entry_hop_at p old) (entry_hop_at p new) ++ z) (skip ps e old old' new new' b.1 h k))

more : (q : Prefix) (e : Prefix × ℕ) (L : Entries) → same_prefix q e.0 ≡ false → entry_hop_at q (e ∷ L) ≡ entry_hop_at q L
more q e L n = ap (λ z. cond z (Some e.1) (entry_hop_at q L)) n

here : (p : Prefix) (e : Prefix × ℕ) (L : Entries) → p ≡ e.0 → entry_hop_at p (e ∷ L) ≡ Some e.1
here p e L s = ap (λ z. cond z (Some e.1) (entry_hop_at p L)) (ap (λ z. same_prefix z e.0) s ∙ prefix_key.itself e.0)

all_keys : (e : Prefix × ℕ) (old new : Entries) → Below e.0 old → Below e.0 new → AllByRecursion (λ q. prefix_cmp e.0 q ≡ Less) (keys_of (in_order (old ++ new)))
all_keys e old new a b = all_folded (λ q. prefix_cmp e.0 q ≡ Less) (old ++ new) [] (all_both (λ q. prefix_cmp e.0 q ≡ Less) old new a b) tt

-- the old table's first entry, before all of the new one's, goes
pub first_old : (e : Prefix × ℕ) (old new : Entries) → Below e.0 old → Below e.0 new → between (e ∷ old) new ≡ Remove e.0 ∷ between old new
unfolding between
first_old e old new a b =
    let ps = keys_of (in_order (old ++ new)) in
    ap (λ (L : Entries). changes_at (keys_of L) (e ∷ old) new) (first_stays e (old ++ new) [] (all_both (λ q. prefix_cmp e.0 q ≡ Less) old new a b))
    ∙ (ap (λ z. change_at e.0 z (entry_hop_at e.0 new) ++ changes_at ps (e ∷ old) new) (here e.0 e old refl)
    ∙ (ap (λ z. change_at e.0 (Some e.1) z ++ changes_at ps (e ∷ old) new) (lookup-below prefix_key e.0 new b)
    ∙ ap (λ z. Remove e.0 ∷ z) (skip ps e old (e ∷ old) new new (all_keys e old new a b) (λ q n. more q e old n) (λ q n. refl))))

-- the new table's first entry, before all of the old one's, comes
pub first_new : (f : Prefix × ℕ) (old new : Entries) → Below f.0 old → Below f.0 new → between old (f ∷ new) ≡ Add f.0 f.1 ∷ between old new
unfolding between
first_new f old new a b =
    let ps = keys_of (in_order (old ++ new)) in
    let order : in_order (old ++ f ∷ new) ≡ f ∷ in_order (old ++ new) =
    fold-append with_entry [] old (f ∷ new)
    ∙ (ap (λ (M : Entries). fold with_entry M new) (put_first f (in_order old) (all_folded (λ q. prefix_cmp f.0 q ≡ Less) old [] a tt)) ∙ (first_stays f new (in_order old) b ∙ ap (λ (M : Entries). f ∷ M) (sym (fold-append with_entry [] old new))))
    in
    ap (λ (L : Entries). changes_at (keys_of L) old (f ∷ new)) order
    ∙ (ap (λ z. change_at f.0 z (entry_hop_at f.0 (f ∷ new)) ++ changes_at ps old (f ∷ new)) (lookup-below prefix_key f.0 old a)
    ∙ (ap (λ z. change_at f.0 None z ++ changes_at ps old (f ∷ new)) (here f.0 f new refl)
    ∙ ap (λ z. Add f.0 f.1 ∷ z) (skip ps f old old new (f ∷ new) (all_keys f old new a b) (λ q n. refl) (λ q n. more q f new n))))

-- first entries of one prefix
pub first_both : (e f : Prefix × ℕ) (old new : Entries) → e.0 ≡ f.0 → Below e.0 old → Below e.0 new → between (e ∷ old) (f ∷ new) ≡ change_at e.0 (Some e.1) (Some f.1) ++ between old new
unfolding between
first_both e f old new s a b =
    let ps = keys_of (in_order (old ++ new)) in
    let g : Prefix × ℕ = (e.0, f.1) in
    let order : in_order ((e ∷ old) ++ f ∷ new) ≡ g ∷ in_order (old ++ new) =
    fold-append with_entry (e ∷ []) old (f ∷ new)
    ∙ (ap (λ (M : Entries). fold with_entry (with_entry M f) new) (first_stays e old [] a)
    ∙ (ap (λ (M : Entries). fold with_entry M new) (put_over e f (in_order old) s) ∙ (first_stays g new (in_order old) b ∙ ap (λ (M : Entries). g ∷ M) (sym (fold-append with_entry [] old new)))))
    in
    ap (λ (L : Entries). changes_at (keys_of L) (e ∷ old) (f ∷ new)) order
    ∙ (ap (λ z. change_at e.0 z (entry_hop_at e.0 (f ∷ new)) ++ changes_at ps (e ∷ old) (f ∷ new)) (here e.0 e old refl)
    ∙ (ap (λ z. change_at e.0 (Some e.1) z ++ changes_at ps (e ∷ old) (f ∷ new)) (here e.0 f new s)
    ∙ ap (λ z. change_at e.0 (Some e.1) (Some f.1) ++ z) (skip ps e old (e ∷ old) new (f ∷ new) (all_keys e old new a b) (λ q n. more q e old n) (λ q n. more q f new (ap (same_prefix q) (sym s) ∙ n)))))
