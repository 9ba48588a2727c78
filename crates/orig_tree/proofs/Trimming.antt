-- Nodes that are dropped, level by level.
use Rattle.std.proofs.Common.{◌≡◌, ◌≢◌, ◌⊎◌, inl, inr, ℕ, ◌-◌, nat_eq, List, [], ◌∷◌, ◌++◌, Bool, true, false, ◌||◌, refl, sym, ap, ◌∙◌, subst, Option, Some, None}
use Rattle.std.specs.List.{list_any}
use Rattle.std.specs.Int.{bit_at}
use Rattle.std.specs.Option.{is_some}
use Rattle.std.proofs.lemmas.List.Folds.{list_any-append}
use Rattle.table_model.specs.Bits.{bits_of, begins, same_bits}
use Rattle.table_model.specs.declared.family.Family.{Family}
use Rattle.table_model.specs.Table.{Entry, Table, here}
use Rattle.table_model.specs.Entries.{Entries, of_family, of_table}
use Rattle.table_model.specs.Regions.{lift, join}
use Rattle.orig_tree.specs.Walk.{Walks, no_walks, walks_of, has_node}
use Rattle.orig_tree.specs.Trims.{has_within, is_used, HasBeside, NodeIsKept, AreTrimmed, IsTrimmed, IsPruned, KeepsRoot, bare, has_labels}
use Rattle.orig_tree.proofs.Paths.{no_bits, first_one, first_zero}
use Rattle.table_model.proofs.Both.{family_is}
use Rattle.orig_tree.proofs.Steps.{has_low, has_high}

-- ---- what a half has within

module _ (q : List Bool) where
  here_low : (o : Option ℕ) → has_within (false ∷ q) (here o) ≡ false
  here_low None = refl
  here_low (Some g) = refl

  here_high : (o : Option ℕ) → has_within (true ∷ q) (here o) ≡ false
  here_high None = refl
  here_high (Some g) = refl

  low_low : (L : Table) → has_within (false ∷ q) (lift (false ∷ []) L) ≡ has_within q L
  low_low [] = refl
  low_low (e ∷ L) = ap (λ t. begins q e.prefix || t) (low_low L)

  low_high : (L : Table) → has_within (false ∷ q) (lift (true ∷ []) L) ≡ false
  low_high [] = refl
  low_high (e ∷ L) = low_high L

  high_low : (L : Table) → has_within (true ∷ q) (lift (false ∷ []) L) ≡ false
  high_low [] = refl
  high_low (e ∷ L) = high_low L

  high_high : (L : Table) → has_within (true ∷ q) (lift (true ∷ []) L) ≡ has_within q L
  high_high [] = refl
  high_high (e ∷ L) = ap (λ t. begins q e.prefix || t) (high_high L)

or_false : (t : Bool) → (t || false) ≡ t
or_false true = refl
or_false false = refl

within_low : (q : List Bool) (o : Option ℕ) (L M : Table) → has_within (false ∷ q) (join o L M) ≡ has_within q L
within_low q o L M =
    let t = λ (e : Entry). begins (false ∷ q) e.prefix in
    list_any-append t (here o) (lift (false ∷ []) L ++ lift (true ∷ []) M)
    ∙ (ap (λ x. x || list_any t (lift (false ∷ []) L ++ lift (true ∷ []) M)) (here_low q o)
    ∙ (list_any-append t (lift (false ∷ []) L) (lift (true ∷ []) M)
    ∙ (ap (λ x. list_any t (lift (false ∷ []) L) || x) (low_high q M) ∙ (or_false _ ∙ low_low q L))))

within_high : (q : List Bool) (o : Option ℕ) (L M : Table) → has_within (true ∷ q) (join o L M) ≡ has_within q M
within_high q o L M =
    let t = λ (e : Entry). begins (true ∷ q) e.prefix in
    list_any-append t (here o) (lift (false ∷ []) L ++ lift (true ∷ []) M)
    ∙ (ap (λ x. x || list_any t (lift (false ∷ []) L ++ lift (true ∷ []) M)) (here_high q o)
    ∙ (list_any-append t (lift (false ∷ []) L) (lift (true ∷ []) M)
    ∙ (ap (λ x. x || list_any t (lift (true ∷ []) M)) (high_low q L) ∙ high_high q M)))

used_low : (q : List Bool) (route entry : Option ℕ) (low high : Walks) → is_used (false ∷ q) (walks_of route entry low high).routes (walks_of route entry low high).entries ≡ is_used q low.routes low.entries
used_low q route entry low high =
    ap (λ x. x || has_within (false ∷ q) (walks_of route entry low high).entries) (within_low q route low.routes high.routes)
    ∙ ap (λ x. has_within q low.routes || x) (within_low q entry low.entries high.entries)

used_high : (q : List Bool) (route entry : Option ℕ) (low high : Walks) → is_used (true ∷ q) (walks_of route entry low high).routes (walks_of route entry low high).entries ≡ is_used q high.routes high.entries
used_high q route entry low high =
    ap (λ x. x || has_within (true ∷ q) (walks_of route entry low high).entries) (within_high q route low.routes high.routes)
    ∙ ap (λ x. has_within q high.routes || x) (within_high q entry low.entries high.entries)

-- ---- one level

-- within the empty prefix nothing is beside the way to it
pub used : (R E : Table) (nodes : List (List Bool)) (q : List Bool) → NodeIsKept [] R E nodes q → is_used q R E ≡ true
used R E nodes q (inl u) = u
used R E nodes q (inr b) = cc

begins_itself : (q : List Bool) → begins q q ≡ true
begins_itself [] = refl
begins_itself (true ∷ q) = begins_itself q
begins_itself (false ∷ q) = begins_itself q

not_root : (b : Bool) (q : List Bool) (K : Type 0) → (b ∷ q ≡ []) ⊎ K → K
not_root b q K (inl e) = cc
not_root b q K (inr k) = k

module _ (route entry : Option ℕ) where
  -- the half of bit 1 is pruned
  module _ (p : List Bool) (low high after : Walks) where
    kept_high : (q : List Bool) → NodeIsKept p after.routes after.entries high.nodes q → NodeIsKept (true ∷ p) (walks_of route entry low after).routes (walks_of route entry low after).entries (walks_of route entry low high).nodes (true ∷ q)
    kept_high q (inl u) = inl (used_high q route entry low after ∙ u)
    kept_high q (inr b) = inr (true ∷ b.0, b.1, b.2, b.3, has_high b.0 route entry low high ∙ b.4)

    kept_high_back : (q : List Bool) → NodeIsKept (true ∷ p) (walks_of route entry low after).routes (walks_of route entry low after).entries (walks_of route entry low high).nodes (true ∷ q) → NodeIsKept p after.routes after.entries high.nodes q
    kept_high_back q (inl u) = inl (sym (used_high q route entry low after) ∙ u)
    kept_high_back q (inr b) = inr (of_half b.0 b.1 b.2 b.3 b.4)
      where
        of_half : (r : List Bool) → begins (true ∷ q) r ≡ true → begins r (true ∷ p) ≡ false → begins (true ∷ p) r ≡ false → has_node r (walks_of route entry low high).nodes ≡ true → HasBeside p q high.nodes
        of_half [] c d e h = cc
        of_half (true ∷ r) c d e h = (r, c, d, e, sym (has_high r route entry low high) ∙ h)
        of_half (false ∷ r) c d e h = cc

    pub trim_high : IsPruned p high after → IsTrimmed (true ∷ p) (walks_of route entry low high) (walks_of route entry low after)
    unfolding same_bits
    trim_high t = λ q. (stays q, back q)
      where
        stays : (q : List Bool) → has_node q (walks_of route entry low after).nodes ≡ true → (has_node q (walks_of route entry low high).nodes ≡ true) × ((q ≡ []) ⊎ NodeIsKept (true ∷ p) (walks_of route entry low after).routes (walks_of route entry low after).entries (walks_of route entry low high).nodes q)
        stays [] h = (refl, inl refl)
        stays (true ∷ q) h = let s = (t q).0 (sym (has_high q route entry low after) ∙ h) in (has_high q route entry low high ∙ s.0, inr (kept_high q s.1))
        stays (false ∷ q) h = let o = has_low q route entry low high ∙ (sym (has_low q route entry low after) ∙ h) in (o, inr (inr (false ∷ q, begins_itself q, refl, refl, o)))

        back : (q : List Bool) → (has_node q (walks_of route entry low high).nodes ≡ true) × ((q ≡ []) ⊎ NodeIsKept (true ∷ p) (walks_of route entry low after).routes (walks_of route entry low after).entries (walks_of route entry low high).nodes q) → has_node q (walks_of route entry low after).nodes ≡ true
        back [] s = refl
        back (true ∷ q) s = has_high q route entry low after ∙ (t q).1 (sym (has_high q route entry low high) ∙ s.0, kept_high_back q (not_root true q _ s.1))
        back (false ∷ q) s = has_low q route entry low after ∙ (sym (has_low q route entry low high) ∙ s.0)

  -- the half of bit 0 is pruned
  module _ (p : List Bool) (low high after : Walks) where
    kept_low : (q : List Bool) → NodeIsKept p after.routes after.entries low.nodes q → NodeIsKept (false ∷ p) (walks_of route entry after high).routes (walks_of route entry after high).entries (walks_of route entry low high).nodes (false ∷ q)
    kept_low q (inl u) = inl (used_low q route entry after high ∙ u)
    kept_low q (inr b) = inr (false ∷ b.0, b.1, b.2, b.3, has_low b.0 route entry low high ∙ b.4)

    kept_low_back : (q : List Bool) → NodeIsKept (false ∷ p) (walks_of route entry after high).routes (walks_of route entry after high).entries (walks_of route entry low high).nodes (false ∷ q) → NodeIsKept p after.routes after.entries low.nodes q
    kept_low_back q (inl u) = inl (sym (used_low q route entry after high) ∙ u)
    kept_low_back q (inr b) = inr (of_half b.0 b.1 b.2 b.3 b.4)
      where
        of_half : (r : List Bool) → begins (false ∷ q) r ≡ true → begins r (false ∷ p) ≡ false → begins (false ∷ p) r ≡ false → has_node r (walks_of route entry low high).nodes ≡ true → HasBeside p q low.nodes
        of_half [] c d e h = cc
        of_half (false ∷ r) c d e h = (r, c, d, e, sym (has_low r route entry low high) ∙ h)
        of_half (true ∷ r) c d e h = cc

    pub trim_low : IsPruned p low after → IsTrimmed (false ∷ p) (walks_of route entry low high) (walks_of route entry after high)
    unfolding same_bits
    trim_low t = λ q. (stays q, back q)
      where
        stays : (q : List Bool) → has_node q (walks_of route entry after high).nodes ≡ true → (has_node q (walks_of route entry low high).nodes ≡ true) × ((q ≡ []) ⊎ NodeIsKept (false ∷ p) (walks_of route entry after high).routes (walks_of route entry after high).entries (walks_of route entry low high).nodes q)
        stays [] h = (refl, inl refl)
        stays (false ∷ q) h = let s = (t q).0 (sym (has_low q route entry after high) ∙ h) in (has_low q route entry low high ∙ s.0, inr (kept_low q s.1))
        stays (true ∷ q) h = let o = has_high q route entry low high ∙ (sym (has_high q route entry after high) ∙ h) in (o, inr (inr (true ∷ q, begins_itself q, refl, refl, o)))

        back : (q : List Bool) → (has_node q (walks_of route entry low high).nodes ≡ true) × ((q ≡ []) ⊎ NodeIsKept (false ∷ p) (walks_of route entry after high).routes (walks_of route entry after high).entries (walks_of route entry low high).nodes q) → has_node q (walks_of route entry after high).nodes ≡ true
        back [] s = refl
        back (false ∷ q) s = has_low q route entry after high ∙ (t q).1 (sym (has_low q route entry low high) ∙ s.0, kept_low_back q (not_root false q _ s.1))
        back (true ∷ q) s = has_high q route entry after high ∙ (sym (has_high q route entry low high) ∙ s.0)

  -- both halves are pruned from their roots on
  module _ (low high lower upper : Walks) where
    pub trim_both : IsPruned [] low lower → IsPruned [] high upper → IsTrimmed [] (walks_of route entry low high) (walks_of route entry lower upper)
    unfolding same_bits
    trim_both s t = λ q. (stays q, back q)
      where
        Kept : List Bool → Type 0
        Kept q = (q ≡ []) ⊎ NodeIsKept [] (walks_of route entry lower upper).routes (walks_of route entry lower upper).entries (walks_of route entry low high).nodes q

        stays : (q : List Bool) → has_node q (walks_of route entry lower upper).nodes ≡ true → (has_node q (walks_of route entry low high).nodes ≡ true) × Kept q
        stays [] h = (refl, inl refl)
        stays (false ∷ q) h = let k = (s q).0 (sym (has_low q route entry lower upper) ∙ h) in (has_low q route entry low high ∙ k.0, inr (inl (used_low q route entry lower upper ∙ used lower.routes lower.entries low.nodes q k.1)))
        stays (true ∷ q) h = let k = (t q).0 (sym (has_high q route entry lower upper) ∙ h) in (has_high q route entry low high ∙ k.0, inr (inl (used_high q route entry lower upper ∙ used upper.routes upper.entries high.nodes q k.1)))

        kept : (q : List Bool) → q ≢ [] → Kept q → is_used q (walks_of route entry lower upper).routes (walks_of route entry lower upper).entries ≡ true
        kept q n (inl e) = absurd (n e)
        kept q n (inr k) = used (walks_of route entry lower upper).routes (walks_of route entry lower upper).entries (walks_of route entry low high).nodes q k

        back : (q : List Bool) → (has_node q (walks_of route entry low high).nodes ≡ true) × Kept q → has_node q (walks_of route entry lower upper).nodes ≡ true
        back [] k = refl
        back (false ∷ q) k = has_low q route entry lower upper ∙ (s q).1 (sym (has_low q route entry low high) ∙ k.0, inl (sym (used_low q route entry lower upper) ∙ kept (false ∷ q) (λ e. cc) k.1))
        back (true ∷ q) k = has_high q route entry lower upper ∙ (t q).1 (sym (has_high q route entry low high) ∙ k.0, inl (sym (used_high q route entry lower upper) ∙ kept (true ∷ q) (λ e. cc) k.1))

-- ---- what is behind a link

-- nothing is pruned of nothing
pub pruned_nothing : (p : List Bool) (old new : Walks) → old ≡ no_walks → new ≡ no_walks → IsPruned p old new
pruned_nothing p old new e f =
    let r : IsPruned p no_walks no_walks = λ q. ((λ h. cc), (λ s. s.0)) in
    subst (λ (w : Walks). IsPruned p w new) (sym e) (subst (λ (w : Walks). IsPruned p no_walks w) (sym f) r)

-- what keeps its root
pub pruned_kept : (p : List Bool) (old new : Walks) → IsTrimmed p old new → KeepsRoot p old new → IsPruned p old new
pruned_kept p old new t k = λ q. (stays q, λ s. (t q).1 (s.0, inr s.1))
  where
    stays : (q : List Bool) → has_node q new.nodes ≡ true → (has_node q old.nodes ≡ true) × NodeIsKept p new.routes new.entries old.nodes q
    stays [] h = (((t []).0 h).0, k)
    stays (b ∷ q) h = let s = (t (b ∷ q)).0 h in (s.0, not_root b q _ s.1)

-- a bare node goes
not_bare : (b : Bool) (q : List Bool) → has_node (b ∷ q) bare.nodes ≡ true → ⊥
unfolding same_bits
not_bare b q h = cc

pub pruned_bare : (p : List Bool) (old bared new : Walks) → IsTrimmed p old bared → bared ≡ bare → new ≡ no_walks → IsPruned p old new
pruned_bare p old bared new t e f =
    subst (λ (w : Walks). IsPruned p old w) (sym f) (λ q. ((λ h. cc), gone (subst (λ (w : Walks). IsTrimmed p old w) e t) q))
  where
    beside : IsTrimmed p old bare → (r : List Bool) → begins r p ≡ false → begins p r ≡ false → has_node r old.nodes ≡ true → ⊥
    beside s [] b c h = cc
    beside s (d ∷ r) b c h = not_bare d r ((s (d ∷ r)).1 (h, inr (inr (d ∷ r, begins_itself (d ∷ r), b, c, h))))

    gone : IsTrimmed p old bare → (q : List Bool) → (has_node q old.nodes ≡ true) × NodeIsKept p [] [] old.nodes q → has_node q [] ≡ true
    gone s q (h, inl u) = cc
    gone s q (h, inr b) = absurd (beside s b.0 b.2 b.3 b.4)

-- ---- the walks

-- a node with both halves pruned
pub pruned : (route entry : Option ℕ) (low high lower upper node : Walks) → walks_of route entry low high ≡ node → IsPruned [] low lower → IsPruned [] high upper → IsTrimmed [] node (walks_of route entry lower upper)
pruned route entry low high lower upper node w s t = subst (λ (n : Walks). IsTrimmed [] n (walks_of route entry lower upper)) w (trim_both route entry low high lower upper s t)

-- a node has labels where it has one of its own or a half has some
any_label : (o : Option ℕ) (L M : Table) → (is_some o || (has_within [] L || has_within [] M)) ≡ has_within [] (join o L M)
any_label (Some g) L M = refl
any_label None L M =
    sym (list_any-append (λ (e : Entry). true) (lift (false ∷ []) L) (lift (true ∷ []) M)
    ∙ (ap (λ t. t || has_within [] (lift (true ∷ []) M)) (lifted false L) ∙ ap (λ t. has_within [] L || t) (lifted true M)))
  where
    lifted : (b : Bool) (L : Table) → has_within [] (lift (b ∷ []) L) ≡ has_within [] L
    lifted b [] = refl
    lifted b (e ∷ L) = refl

or_true : (t : Bool) → (t || true) ≡ true
or_true true = refl
or_true false = refl

regroup : (r e a b c d : Bool) → ((a || b) || ((c || d) || (r || e))) ≡ true → ((r || (a || c)) || (e || (b || d))) ≡ true
regroup true e a b c d h = refl
regroup false e true b c d h = refl
regroup false e false b true d h = refl
regroup false true false b false d h = refl
regroup false false false true false d h = refl
regroup false false false false false true h = refl
regroup false false false false false false h = h

module _ (route entry : Option ℕ) (low high : Walks) where
  labelled : (has_labels low || (has_labels high || (is_some route || is_some entry))) ≡ true → has_labels (walks_of route entry low high) ≡ true
  labelled h =
      sym (ap (λ x. x || (is_some entry || (has_within [] low.entries || has_within [] high.entries))) (any_label route low.routes high.routes)
      ∙ ap (λ x. has_within [] (join route low.routes high.routes) || x) (any_label entry low.entries high.entries))
      ∙ regroup (is_some route) (is_some entry) (has_within [] low.routes) (has_within [] low.entries) (has_within [] high.routes) (has_within [] high.entries) h

  pub labels_low : has_labels low ≡ true → has_labels (walks_of route entry low high) ≡ true
  labels_low h = labelled (ap (λ x. x || (has_labels high || (is_some route || is_some entry))) h)

  pub labels_high : has_labels high ≡ true → has_labels (walks_of route entry low high) ≡ true
  labels_high h = labelled (ap (λ x. has_labels low || (x || (is_some route || is_some entry))) h ∙ or_true (has_labels low))

  pub labels_own : (is_some route || is_some entry) ≡ true → has_labels (walks_of route entry low high) ≡ true
  labels_own h = labelled (ap (λ x. has_labels low || (has_labels high || x)) h ∙ (ap (λ x. has_labels low || x) (or_true (has_labels high)) ∙ or_true (has_labels low)))

-- at the path's end
pub trimmed_here : (old new : Walks) (left q : ℕ) → left ≡ 0 → IsTrimmed [] old new → IsTrimmed (bits_of left q) old new
trimmed_here old new left q e t = subst (λ (p : List Bool). IsTrimmed p old new) (sym (no_bits left q e)) t

-- and before it
module _ (route entry : Option ℕ) (low high after node : Walks) (left q : ℕ) where
  pub trimmed_high : left ≢ 0 → true ≡ nat_eq (bit_at q (left - 1)) 1 → walks_of route entry low high ≡ node → IsPruned (bits_of (left - 1) q) high after → IsTrimmed (bits_of left q) node (walks_of route entry low after)
  trimmed_high n b w t =
      subst (λ (p : List Bool). IsTrimmed p node (walks_of route entry low after)) (sym (first_one left q n b))
      (subst (λ (x : Walks). IsTrimmed (true ∷ bits_of (left - 1) q) x (walks_of route entry low after)) w (trim_high route entry (bits_of (left - 1) q) low high after t))

  pub trimmed_low : left ≢ 0 → false ≡ nat_eq (bit_at q (left - 1)) 1 → walks_of route entry low high ≡ node → IsPruned (bits_of (left - 1) q) low after → IsTrimmed (bits_of left q) node (walks_of route entry after high)
  trimmed_low n b w t =
      subst (λ (p : List Bool). IsTrimmed p node (walks_of route entry after high)) (sym (first_zero left q n b))
      (subst (λ (x : Walks). IsTrimmed (false ∷ bits_of (left - 1) q) x (walks_of route entry after high)) w (trim_low route entry (bits_of (left - 1) q) low high after t))

-- what keeps a node on the way: its half on the way, its other half, or a label of its own
module _ (route entry : Option ℕ) (low high after node : Walks) (left q : ℕ) where
  at_high : left ≢ 0 → true ≡ nat_eq (bit_at q (left - 1)) 1 → walks_of route entry low high ≡ node → KeepsRoot (true ∷ bits_of (left - 1) q) (walks_of route entry low high) (walks_of route entry low after)
      → KeepsRoot (bits_of left q) node (walks_of route entry low after)
  at_high n b w k =
      subst (λ (p : List Bool). KeepsRoot p node (walks_of route entry low after)) (sym (first_one left q n b))
      (subst (λ (x : Walks). KeepsRoot (true ∷ bits_of (left - 1) q) x (walks_of route entry low after)) w k)

  at_low : left ≢ 0 → false ≡ nat_eq (bit_at q (left - 1)) 1 → walks_of route entry low high ≡ node → KeepsRoot (false ∷ bits_of (left - 1) q) (walks_of route entry low high) (walks_of route entry after high)
      → KeepsRoot (bits_of left q) node (walks_of route entry after high)
  at_low n b w k =
      subst (λ (p : List Bool). KeepsRoot p node (walks_of route entry after high)) (sym (first_zero left q n b))
      (subst (λ (x : Walks). KeepsRoot (false ∷ bits_of (left - 1) q) x (walks_of route entry after high)) w k)

  by_high : (p : List Bool) → KeepsRoot p high after → KeepsRoot (true ∷ p) (walks_of route entry low high) (walks_of route entry low after)
  by_high p (inl u) = inl (labels_high route entry low after u)
  by_high p (inr b) = inr (true ∷ b.0, refl, b.2, b.3, has_high b.0 route entry low high ∙ b.4)

  by_low : (p : List Bool) → KeepsRoot p low after → KeepsRoot (false ∷ p) (walks_of route entry low high) (walks_of route entry after high)
  by_low p (inl u) = inl (labels_low route entry after high u)
  by_low p (inr b) = inr (false ∷ b.0, refl, b.2, b.3, has_low b.0 route entry low high ∙ b.4)

  pub kept_by_high : left ≢ 0 → true ≡ nat_eq (bit_at q (left - 1)) 1 → walks_of route entry low high ≡ node → KeepsRoot (bits_of (left - 1) q) high after → KeepsRoot (bits_of left q) node (walks_of route entry low after)
  kept_by_high n b w k = at_high n b w (by_high (bits_of (left - 1) q) k)

  pub kept_by_low : left ≢ 0 → false ≡ nat_eq (bit_at q (left - 1)) 1 → walks_of route entry low high ≡ node → KeepsRoot (bits_of (left - 1) q) low after → KeepsRoot (bits_of left q) node (walks_of route entry after high)
  kept_by_low n b w k = at_low n b w (by_low (bits_of (left - 1) q) k)

  pub kept_beside_high : left ≢ 0 → true ≡ nat_eq (bit_at q (left - 1)) 1 → walks_of route entry low high ≡ node → has_node [] low.nodes ≡ true → KeepsRoot (bits_of left q) node (walks_of route entry low after)
  kept_beside_high n b w h = at_high n b w (inr (false ∷ [], refl, refl, refl, has_low [] route entry low high ∙ h))

  pub kept_beside_low : left ≢ 0 → false ≡ nat_eq (bit_at q (left - 1)) 1 → walks_of route entry low high ≡ node → has_node [] high.nodes ≡ true → KeepsRoot (bits_of left q) node (walks_of route entry after high)
  kept_beside_low n b w h = at_low n b w (inr (true ∷ [], refl, refl, refl, has_high [] route entry low high ∙ h))

-- the whole tree, by its entries
pub trimmed_tree : (f g : Family) (p s : List Bool) (R E M N : Table) (RS ES : Entries) (old was new : List (List Bool)) → f ≡ g → p ≡ s → M ≡ R → N ≡ E → of_table f R ≡ RS → of_table f E ≡ ES → old ≡ was
    → AreTrimmed p M N old new → AreTrimmed s (of_family g RS) (of_family g ES) was new
trimmed_tree f g p s R E M N RS ES old was new k q m n v w o t =
    let a : M ≡ of_family g RS = m ∙ (sym (family_is f R) ∙ (ap (of_family f) v ∙ ap (λ x. of_family x RS) k)) in
    let b : N ≡ of_family g ES = n ∙ (sym (family_is f E) ∙ (ap (of_family f) w ∙ ap (λ x. of_family x ES) k)) in
    subst (λ (x : List Bool). AreTrimmed x (of_family g RS) (of_family g ES) was new) q
    (subst (λ (x : Table). AreTrimmed p x (of_family g ES) was new) a
    (subst (λ (x : Table). AreTrimmed p M x was new) b (subst (λ (x : List (List Bool)). AreTrimmed p M N x new) o t)))
