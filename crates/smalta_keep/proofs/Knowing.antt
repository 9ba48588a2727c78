-- What is known of a table after a change.
use Rattle.std.proofs.Common.{◌≡◌, ◌-◌, ℕ, List, [], ◌∷◌, ◌++◌, Bool, true, false, cond, Option, Some, None, length, refl, sym, ap, subst, ◌∙◌, arith, inl, inr}
use Rattle.std.specs.Prelude.{◌&&◌, option_map}
use Rattle.std.specs.Option.{ForSome}
use Rattle.table_model.specs.Bits.{begins}
use Rattle.table_model.specs.Address.{Prefix, IsPrefix, same_family, same_prefix}
use Rattle.table_model.specs.Width.{width}
use Rattle.table_model.specs.declared.family.Family.{Family}
use Rattle.table_model.specs.Table.{Table, root, cut}
use Rattle.table_model.specs.Entries.{Entries, of_family, with_entry}
use Rattle.table_model.specs.Regions.{above, entry_at, lift, SameEntries}
use Rattle.table_model.specs.Sets.{agg, answers}
use Rattle.table_model.specs.Least.{aggregate}
use Rattle.table_model.specs.Both.{aggregate_in}
use Rattle.table_model.proofs.Both.{family_is}
use Rattle.table_model.proofs.Region.{cut_lift}
use Rattle.route_model.proofs.Keyed.{lookup-put}
use Rattle.route_model.proofs.Places.{prefix_key}
use Rattle.kept_model.specs.Between.{entry_hop_at}
use Rattle.kept_model.specs.Patched.{with_route, patch_of, after_repair, after_snapshot, region_aggregate}
use Rattle.kept_model.proofs.Patches.{family_hop, table_hop, hop_patched}
use Rattle.table_model.proofs.Patch.{cut_cut, same_above}
use Rattle.table_model.specs.Halves.{is_within}
use Rattle.kept_model.specs.Stays.{Stays, is_wide_mark, Settled, HasMarks, IsMarked, GetsMark}
use Rattle.kept_model.proofs.Again.{stays_again}
use Rattle.kept_model.proofs.Settling.{above_nil, all_settled, settled_more, settled_after, settled_mended, stays_same}
use Rattle.orig_tree.specs.Views.{Labels, InPlace}
use Rattle.orig_tree.proofs.Arena.{begins_self}
use Rattle.table_model.proofs.SamePrefix.{same_family_itself}
use Rattle.smalta_keep.specs.KnownBelow.{IsSettled, IsKnown, IsKnownBefore}
use Rattle.smalta_keep.proofs.Within.{entry_lift}
use Rattle.smalta_keep.specs.declared.routes.Former.{Former}
use Rattle.smalta_keep.specs.Known.{IsOfFamily, IsTouched, IsTouchedAt, IsEased, IsEasedAt, IsWholeSpace, AreMore, AreWide, AreLeft, KnownAt, IsKnownToMend, StaysAt, SameBeside}
use Rattle.smalta_keep.specs.Routes.{put_back_in, undone_in, former_place}
use Rattle.smalta_keep.specs.Views.{with_planned, place_in}
use Rattle.smalta_keep.proofs.Making.{routed_elsewhere, put_back_hop}
use Rattle.fib_addr.specs.Views.{prefix_as}
use Rattle.fib_addr.specs.declared.prefix.Prefix as code_prefix
use Rattle.fib_addr.specs.declared.entry.Hop as code_hop
use Rattle.fib_delta.proofs.Held.{is_prefix}

abbrev Route : Type 0
Route = Option (code_prefix.Prefix × code_hop.Hop)

-- ---- families

-- ---- dirty prefixes

some_none : (h : ℕ) → Some h ≡ None → ⊥
some_none h e = cc

-- a prefix is marked with a hop
module _ (p : Prefix) (h : ℕ) (m n : Labels) (e : p.family ≡ m.family) (x : IsPrefix p) (s : InPlace m.entries) (f : n.family ≡ m.family) (g : n.entries ≡ with_entry m.entries (p, h)) where
  told : (r : List Bool) → entry_at r (of_family m.family n.entries) ≡ cond (same_prefix (record { family = m.family; bits = r }) p) (Some h) (entry_hop_at (record { family = m.family; bits = r }) m.entries)
  told r = let y : Prefix = record { family = m.family; bits = r } in family_hop m.family r n.entries ∙ (ap (entry_hop_at y) g ∙ lookup-put prefix_key y m.entries p h s.0 x)

  set_here : entry_at p.bits (of_family m.family n.entries) ≡ Some h
  set_here =
      let y : Prefix = record { family = m.family; bits = p.bits } in
      let itself : same_prefix y p ≡ true = ap (λ (k : Family). same_prefix (record { family = k; bits = p.bits }) p) (sym e) ∙ prefix_key.itself p in
      told p.bits ∙ ap (λ b. cond b (Some h) (entry_hop_at y m.entries)) itself

  set_else : (r : List Bool) → same_prefix (record { family = m.family; bits = r }) p ≡ false → entry_at r (of_family m.family n.entries) ≡ entry_at r (of_family m.family m.entries)
  set_else r t = let y : Prefix = record { family = m.family; bits = r } in told r ∙ (ap (λ b. cond b (Some h) (entry_hop_at y m.entries)) t ∙ sym (family_hop m.family r m.entries))

  set_same : (r : List Bool) → same_prefix (record { family = m.family; bits = r }) p ≡ true → entry_at r (of_family m.family n.entries) ≡ Some h
  set_same r t = let y : Prefix = record { family = m.family; bits = r } in told r ∙ ap (λ b. cond b (Some h) (entry_hop_at y m.entries)) t

  pub eased_one : IsEased p (Some m) (Some n)
  eased_one = (f, record { marked = λ z. some_none h (sym set_here ∙ z); others = λ r i. by_test r i (same_prefix (record { family = m.family; bits = r }) p) refl })
    where
      by_test : (r : List Bool) → (r ≡ p.bits → ⊥) → (b : Bool) → same_prefix (record { family = m.family; bits = r }) p ≡ b → entry_at r (of_family m.family n.entries) ≡ entry_at r (of_family m.family m.entries)
      by_test r i true t = absurd (i (ap (λ (y : Prefix). y.bits) (prefix_key.same (record { family = m.family; bits = r }) p t)))
      by_test r i false t = set_else r t

  pub touched_one : h ≡ 1 → IsTouched p (Some m) (Some n)
  touched_one w = (f, record { kept = record { there = λ r z. there r (same_prefix (record { family = m.family; bits = r }) p) refl z; wide = λ r z. wide r (same_prefix (record { family = m.family; bits = r }) p) refl z }; marked = ap is_wide_mark set_here ∙ ap (λ k. is_wide_mark (Some k)) w })
    where
      there : (r : List Bool) (b : Bool) → same_prefix (record { family = m.family; bits = r }) p ≡ b → entry_at r (of_family m.family n.entries) ≡ None → entry_at r (of_family m.family m.entries) ≡ None
      there r true t z = absurd (some_none h (sym (set_same r t) ∙ z))
      there r false t z = sym (set_else r t) ∙ z

      wide : (r : List Bool) (b : Bool) → same_prefix (record { family = m.family; bits = r }) p ≡ b → is_wide_mark (entry_at r (of_family m.family n.entries)) ≡ false → is_wide_mark (entry_at r (of_family m.family m.entries)) ≡ false
      wide r true t z = let y : true ≡ false = sym (ap is_wide_mark (set_same r t) ∙ ap (λ k. is_wide_mark (Some k)) w) ∙ z in absurd cc
      wide r false t z = ap is_wide_mark (sym (set_else r t)) ∙ z

pub more_touched : (p : Prefix) (t u : Option Labels) → IsTouched p t u → AreMore t u
more_touched p t None x = tt
more_touched p None (Some n) x = x
more_touched p (Some m) (Some n) x = (x.0, x.1.kept)

pub known_more : (k : Labels) (t u : Option Labels) → AreMore t u → IsKnown k t → IsKnown k u
known_more k t None a x = tt
known_more k None (Some n) a x = absurd a
known_more k (Some m) (Some n) a x =
    let f = k.family in (
      a.0 ∙ x.0,
      settled_more (width f) (answers (of_family f k.routes) []) (of_family f k.entries) 0 (of_family f m.entries) (of_family f n.entries)
          (subst (λ (g : Family). HasMarks (of_family g m.entries) (of_family g n.entries)) x.0 a.1) x.1,
    )

pub known_touched : (p : Prefix) (k : Labels) (t u : Option Labels) → IsTouched p t u → IsKnown k t → KnownAt (Some p) k u
known_touched p k t None a x = tt
known_touched p k None (Some n) a x = absurd a
known_touched p k (Some m) (Some n) a x =
    let y : IsKnown k (Some n) = known_more k (Some m) (Some n) (a.0, a.1.kept) x in
    (y.0, subst (λ (g : Family). is_wide_mark (entry_at p.bits (of_family g n.entries)) ≡ true) x.0 a.1.marked, y.1)

pub known_at : (at : Option Prefix) (k : Labels) (t u : Option Labels) → IsTouchedAt at t u → IsKnown k t → KnownAt at k u
known_at None k t u a x = subst (λ (v : Option Labels). IsKnown k v) (sym a) x
known_at (Some p) k t u a x = known_touched p k t u a x

-- ---- a change within a prefix

pub known_after : (at : Option Prefix) (k l : Labels) (u : Option Labels) → l.family ≡ k.family → SameBeside at k.family k.routes l.routes → SameBeside at k.family k.entries l.entries → KnownAt at k u → IsKnown l u
known_after None k l None f r t x = tt
known_after None k l (Some n) f r t x =
    (x.0 ∙ sym f, subst (λ (g : Family). IsSettled g l.routes l.entries n.entries) (sym f) (subst (λ (R : Entries). IsSettled k.family R l.entries n.entries) (sym r) (subst (λ (T : Entries). IsSettled k.family k.routes T n.entries) (sym t) x.1)))
known_after (Some p) k l None f r t x = tt
known_after (Some p) k l (Some n) f r t x =
    let g = k.family in
    let M = of_family g n.entries in
    let m : IsMarked p.bits M M = record { kept = record { there = λ y z. z; wide = λ y z. z }; marked = x.1 } in (
      x.0 ∙ sym f,
      subst (λ (z : Family). IsSettled z l.routes l.entries n.entries) (sym f) (settled_after (width g) p.bits (of_family g k.routes) (of_family g l.routes) (of_family g k.entries) (of_family g l.entries) M M 0 r t m x.2),
    )

pub beside_itself : (at : Option Prefix) (f : Family) (E F : Entries) → F ≡ E → SameBeside at f E F
beside_itself None f E F e = e
beside_itself (Some p) f E F e = λ q n. ap (λ (X : Entries). entry_at q (of_family f X)) (sym e)

-- ---- what changes within it

elsewhere : (p : Prefix) (f : Family) (q : List Bool) → begins p.bits q ≡ false → same_prefix (record { family = f; bits = q }) p ≡ false
elsewhere p f q n = by_test (same_prefix (record { family = f; bits = q }) p) refl
  where
    by_test : (b : Bool) → same_prefix (record { family = f; bits = q }) p ≡ b → b ≡ false
    by_test false s = refl
    by_test true s =
        let same : q ≡ p.bits = ap (λ (x : Prefix). x.bits) (prefix_key.same (record { family = f; bits = q }) p s) in
        let itself : begins p.bits q ≡ true = ap (begins p.bits) same ∙ begins_self p.bits in
        let z : true ≡ false = sym itself ∙ n in absurd cc

-- a route
pub beside_route : (p : Prefix) (f : Family) (h : ℕ) (R S : Entries) → IsPrefix p → InPlace R → S ≡ with_route p h R → SameBeside (Some p) f R S
beside_route p f h R S x r e q n =
    family_hop f q R
    ∙ (sym (routed_elsewhere p (record { family = f; bits = q }) h R x r (elsewhere p f q n)) ∙ (ap (entry_hop_at (record { family = f; bits = q })) (sym e) ∙ sym (family_hop f q S)))

pub beside_put_back : (p : Prefix) (f : Family) (o : Option ℕ) (R S : Entries) → IsPrefix p → InPlace R → S ≡ put_back_in p o R → SameBeside (Some p) f R S
beside_put_back p f o R S x r e q n =
    family_hop f q R
    ∙ (sym (put_back_hop p (record { family = f; bits = q }) o R x r ∙ ap (λ b. cond b o (entry_hop_at (record { family = f; bits = q }) R)) (elsewhere p f q n)) ∙ (ap (entry_hop_at (record { family = f; bits = q })) (sym e) ∙ sym (family_hop f q S)))

-- a plan's route, and what it left behind
pub beside_planned : (route : Route) (f : Family) (R S : Entries) → InPlace R → S ≡ with_planned route R → SameBeside (place_in route) f R S
beside_planned None f R S r e = e
beside_planned (Some x) f R S r e = beside_route (prefix_as x.0) f x.1.0 R S (is_prefix x.0) r e

pub beside_undone : (o : Option Former) (f : Family) (R S : Entries) → InPlace R → S ≡ undone_in o R → SameBeside (former_place o) f R S
beside_undone None f R S r e = e
beside_undone (Some x) f R S r e = beside_put_back (prefix_as x.prefix) f (option_map (λ h. h.0) x.hop) R S (is_prefix x.prefix) r e

-- a repair
and_false : (b : Bool) → (b && false) ≡ false
and_false true = refl
and_false false = refl

pub not_within : (p : Prefix) (f : Family) (q : List Bool) → begins p.bits q ≡ false → is_within (record { family = f; bits = q }) p ≡ false
not_within p f q n = ap (λ b. same_family p.family f && b) n ∙ and_false (same_family p.family f)

pub beside_patch : (R T : Entries) (p : Prefix) (f : Family) → IsPrefix p → InPlace T → SameBeside (Some p) f T (patch_of R p T)
beside_patch R T p f x t q n =
    let a : Prefix = record { family = f; bits = q } in
    family_hop f q T ∙ (sym (hop_patched R T p a x t ∙ ap (λ b. cond b (entry_hop_at a (region_aggregate R p T)) (entry_hop_at a T)) (not_within p f q n)) ∙ sym (family_hop f q (patch_of R p T)))

-- ---- a snapshot

pub unlifted : (L : Table) → lift [] L ≡ L
unlifted L = cut_lift [] L

nothing_less : (w : ℕ) → w - length {A = Bool} [] ≡ w
nothing_less w = omega arith

pub whole_is : (f : Family) (R T : Entries) → of_family f (aggregate_in f R T) ≡ agg (width f) (answers (of_family f R) []) (of_family f T) 0
whole_is f R T =
    family_is f (aggregate (width f) (of_family f R) [] 0 (of_family f T))
    ∙ (unlifted (agg (width f - length {A = Bool} []) (answers (of_family f R) []) (of_family f T) 0) ∙ ap (λ d. agg d (answers (of_family f R) []) (of_family f T) 0) (nothing_less (width f)))

pub known_fresh : (l : Labels) (f : Family) (R T : Entries) (u : Option Labels) → l.family ≡ f → l.routes ≡ R → l.entries ≡ aggregate_in f R T → IsOfFamily f u → IsKnown l u
known_fresh l f R T None e r t n = tt
known_fresh l f R T (Some m) e r t n =
    let g = answers (of_family f R) [] in
    let L = agg (width f) g (of_family f T) 0 in
    let s : Settled (width f) g L 0 (of_family f m.entries) = all_settled (width f) g L 0 (of_family f m.entries) (stays_again (width f) g (of_family f T) 0) in
    let u : Settled (width f) g (of_family f (aggregate_in f R T)) 0 (of_family f m.entries) = subst (λ (X : Table). Settled (width f) g X 0 (of_family f m.entries)) (sym (whole_is f R T)) s in
    (sym n ∙ sym e, subst (λ (z : Family). IsSettled z l.routes l.entries m.entries) (sym e) (subst (λ (X : Entries). IsSettled f X l.entries m.entries) (sym r) (subst (λ (X : Entries). IsSettled f R X m.entries) (sym t) u)))

-- the prefix by which the code marks
pub former_places : (o : Option Former) (at : Option code_prefix.Prefix) (t u : Option Labels) → at ≡ option_map (λ f. f.prefix) o → IsTouchedAt (option_map prefix_as at) t u → IsTouchedAt (former_place o) t u
former_places None at t u e x = subst (λ (a : Option code_prefix.Prefix). IsTouchedAt (option_map prefix_as a) t u) e x
former_places (Some f) at t u e x = subst (λ (a : Option code_prefix.Prefix). IsTouchedAt (option_map prefix_as a) t u) e x

-- ---- what a plan, a commit and taking back leave

pub known_planned : (route : Route) (k l : Labels) (u : Option Labels) → InPlace k.routes → KnownAt (place_in route) k u → l.family ≡ k.family → l.routes ≡ with_planned route k.routes → l.entries ≡ k.entries → IsKnown l u
known_planned route k l u r x f s e = known_after (place_in route) k l u f (beside_planned route k.family k.routes l.routes r s) (beside_itself (place_in route) k.family k.entries l.entries e) x

known_marked : (at : Option Prefix) (k l : Labels) (u : Option Labels) → KnownAt at k u → l.family ≡ k.family → IsKnown l u → KnownAt at l u
known_marked None k l u x f y = y
known_marked (Some p) k l None x f y = tt
known_marked (Some p) k l (Some n) x f y = (y.0, subst (λ (g : Family). is_wide_mark (entry_at p.bits (of_family g n.entries)) ≡ true) (sym f) x.1, y.1)

pub known_set : (route : Route) (k l : Labels) (u : Option Labels) → InPlace k.routes → KnownAt (place_in route) k u → l.family ≡ k.family → l.routes ≡ with_planned route k.routes → l.entries ≡ k.entries → KnownAt (place_in route) l u
known_set route k l u r x f s e = known_marked (place_in route) k l u x f (known_planned route k l u r x f s e)

pub known_undone : (o : Option Former) (k l : Labels) (t u : Option Labels) → InPlace k.routes → IsTouchedAt (former_place o) t u → IsKnown k t → l.family ≡ k.family → l.routes ≡ undone_in o k.routes → l.entries ≡ k.entries → IsKnown l u
known_undone o k l t u r a x f s e = known_after (former_place o) k l u f (beside_undone o k.family k.routes l.routes r s) (beside_itself (former_place o) k.family k.entries l.entries e) (known_at (former_place o) k t u a x)

-- what a repair's prefix has stays there
pub known_eased : (at : Option Prefix) (k l : Labels) (t u : Option Labels) → IsEasedAt at t u → IsKnown k t → l.family ≡ k.family → l.routes ≡ k.routes → SameBeside at k.family k.entries l.entries → StaysAt at k.family k.routes l.entries → IsKnown l u
known_eased None k l t u a x f s b y = known_after None k l u f s b (subst (λ (v : Option Labels). IsKnown k v) (sym a) x)
known_eased (Some p) k l t None a x f s b y = tt
known_eased (Some p) k l None (Some n) a x f s b y = absurd a
known_eased (Some p) k l (Some m) (Some n) a x f s b y =
    let g = k.family in
    let R = of_family g k.routes in
    let e : GetsMark p.bits (of_family g m.entries) (of_family g n.entries) = subst (λ (z : Family). GetsMark p.bits (of_family z m.entries) (of_family z n.entries)) x.0 a.1 in
    let z : IsSettled g k.routes l.entries n.entries = settled_mended (width g) p.bits R (of_family g k.entries) (of_family g l.entries) (of_family g m.entries) (of_family g n.entries) 0 b e y x.1 in
    (a.0 ∙ (x.0 ∙ sym f), subst (λ (z : Family). IsSettled z l.routes l.entries n.entries) (sym f) (subst (λ (S : Entries). IsSettled g S l.entries n.entries) (sym s) z))

-- in the whole space everything is clean then
known_whole : (at : Option Prefix) (k l : Labels) (u : Option Labels) → IsWholeSpace at → IsOfFamily k.family u → l.family ≡ k.family → l.routes ≡ k.routes → StaysAt at k.family k.routes l.entries → IsKnown l u
known_whole None k l u w n f s y = absurd w
known_whole (Some p) k l None w n f s y = tt
known_whole (Some p) k l (Some m) w n f s y =
    let g = k.family in
    let F = answers (of_family g k.routes) in
    let T = of_family g l.entries in
    let z : Stays (width g - length {A = Bool} []) (F []) T (above [] T 0) = subst (λ (q : List Bool). Stays (width g - length q) (F q) (cut q T) (above q T 0)) w y in
    let v : Stays (width g) (F []) T 0 = subst (λ (d : ℕ). Stays d (F []) T 0) (nothing_less (width g)) (subst (λ (h : ℕ). Stays (width g - length {A = Bool} []) (F []) T h) (above_nil T 0) z) in
    let i : IsSettled g k.routes l.entries m.entries = all_settled (width g) (F []) T 0 (of_family g m.entries) v in
    (sym n ∙ sym f, subst (λ (z : Family). IsSettled z l.routes l.entries m.entries) (sym f) (subst (λ (S : Entries). IsSettled g S l.entries m.entries) (sym s) i))

pub known_made : (due fewest : Bool) (at : Option Prefix) (k l : Labels) (N : Entries) (t u : Option Labels) → AreLeft due fewest k.family at t u → IsKnown k t → l.family ≡ k.family → l.routes ≡ k.routes → SameBeside at k.family k.entries N
    → (fewest ≡ false → StaysAt at k.family k.routes N) → l.entries ≡ after_snapshot k.family k.routes due N → IsKnown l u
known_made true fewest at k l N t u a x f s b y e = known_fresh l k.family k.routes N u f s e a
known_made false true at k l N t u a x f s b y e = known_after at k l u f (beside_itself at k.family k.routes l.routes s) (subst (λ (T : Entries). SameBeside at k.family k.entries T) (sym e) b) (known_at at k t u a x)
known_made false false at k l N t u (inl a) x f s b y e = known_eased at k l t u a x f s (subst (λ (T : Entries). SameBeside at k.family k.entries T) (sym e) b) (subst (λ (T : Entries). StaysAt at k.family k.routes T) (sym e) (y refl))
known_made false false at k l N t u (inr a) x f s b y e = known_whole at k l u a.0 a.1 f s (subst (λ (T : Entries). StaysAt at k.family k.routes T) (sym e) (y refl))

-- ---- a patch

same_family_true : (f : Family) (b : Bool) → (same_family f f && b) ≡ b
same_family_true f b = ap (λ i. i && b) (same_family_itself f)

begins_on : (p q : List Bool) → begins p (p ++ q) ≡ true
begins_on [] q = refl
begins_on (true ∷ p) q = begins_on p q
begins_on (false ∷ p) q = begins_on p q

-- a pass over the prefix of a patch leaves what it has there
pub patch_stays : (at : Option Prefix) (f : Family) (R T : Entries) → ForSome at (λ p. (p.family ≡ f) × IsPrefix p) → InPlace T → StaysAt at f R (after_repair R at T)
patch_stays None f R T x t = tt
patch_stays (Some p) f R T x t =
    let y = x p refl in
    subst (λ (g : Family). StaysAt (Some p) g R (patch_of R p T)) y.0 (here p R T y.1 t)
  where
    here : (p : Prefix) (R T : Entries) → IsPrefix p → InPlace T → StaysAt (Some p) p.family R (patch_of R p T)
    here p R T x t =
        let g = p.family in
        let P = p.bits in
        let N = patch_of R p T in
        let d = width g - length P in
        let F = answers (of_family g R) P in
        let L = cut P (of_family g T) in
        let h = above P (of_family g T) 0 in
        let same : SameEntries (cut P (of_family g N)) (agg d F L h) = λ q.
        let a : Prefix = record { family = g; bits = P ++ q } in
        ap root (sym (cut_cut P q (of_family g N))) ∙ (family_hop g (P ++ q) N ∙ (hop_patched R T p a x t
        ∙ (ap (λ b. cond b (entry_hop_at a (region_aggregate R p T)) (entry_hop_at a T)) (same_family_true g (begins P (P ++ q)) ∙ begins_on P q) ∙ (table_hop g (P ++ q) (lift P (agg d F L h)) ∙ entry_lift P q (agg d F L h)))))
        in
        subst (λ (k : ℕ). Stays d F (cut P (of_family g N)) k) (same_above P (of_family g T) (of_family g N) 0 (beside_patch R T p g x t)) (stays_same d F (cut P (of_family g N)) L h same)

-- ---- the routes before an event

pub known_before : (p : code_prefix.Prefix) (h : ℕ) (k l : Labels) (u : Option Labels) → InPlace k.routes → IsKnown k u → l.family ≡ k.family → l.routes ≡ with_route (prefix_as p) h k.routes → l.entries ≡ k.entries → IsKnownBefore (prefix_as p) l u
known_before p h k l None r x f s e = tt
known_before p h k l (Some m) r x f s e = (
  x.0 ∙ sym f,
  k.routes,
  λ q i. else q i,
  subst (λ (g : Family). IsSettled g k.routes l.entries m.entries) (sym f) (subst (λ (T : Entries). IsSettled k.family k.routes T m.entries) (sym e) x.1),
)
  where
    else : (q : List Bool) → (q ≡ (prefix_as p).bits → ⊥) → entry_at q (of_family l.family k.routes) ≡ entry_at q (of_family l.family l.routes)
    else q i =
        let a : Prefix = record { family = l.family; bits = q } in
        family_hop l.family q k.routes ∙ (sym (routed_elsewhere (prefix_as p) a h k.routes (is_prefix p) r (apart a i)) ∙ (ap (entry_hop_at a) (sym s) ∙ sym (family_hop l.family q l.routes)))
      where
        apart : (a : Prefix) → (a.bits ≡ (prefix_as p).bits → ⊥) → same_prefix a (prefix_as p) ≡ false
        apart a i = by_test (same_prefix a (prefix_as p)) refl
          where
            by_test : (b : Bool) → same_prefix a (prefix_as p) ≡ b → b ≡ false
            by_test false t = refl
            by_test true t = absurd (i (ap (λ (y : Prefix). y.bits) (prefix_key.same a (prefix_as p) t)))

pub known_to_mend : (fewest : Bool) (route : Route) (k l : Labels) (u : Option Labels) → InPlace k.routes → IsKnown k u → l.family ≡ k.family → l.routes ≡ with_planned route k.routes → l.entries ≡ k.entries → IsKnownToMend fewest (place_in route) l u
known_to_mend true route k l u r x f s e = tt
known_to_mend false None k l u r x f s e = tt
known_to_mend false (Some (p, h)) k l u r x f s e = known_before p h.0 k l u r x f s e

-- the dirty prefixes are of the family
pub known_family : (at : Option Prefix) (k : Labels) (u : Option Labels) (f : Family) → f ≡ k.family → KnownAt at k u → IsOfFamily f u
known_family None k None f e x = tt
known_family None k (Some n) f e x = e ∙ sym x.0
known_family (Some p) k None f e x = tt
known_family (Some p) k (Some n) f e x = e ∙ sym x.0

pub reach_family : (o : Option code_prefix.Prefix) (at : Option Prefix) (k : Labels) (u : Option Labels) → ForSome o (λ p. p.family ≡ k.family) → KnownAt at k u → ForSome o (λ p. IsOfFamily p.family u)
reach_family o at k u e x = λ p s. known_family at k u p.family (e p s) x

-- what was marked still is
pub more_itself : (t : Option Labels) → AreMore t t
more_itself None = tt
more_itself (Some m) = (refl, record { there = λ r z. z; wide = λ r z. z })

pub more_both : (t u v : Option Labels) → AreMore t u → AreMore u v → AreMore t v
more_both t u None x y = tt
more_both t None (Some n) x y = absurd y
more_both None (Some m) (Some n) x y = absurd x
more_both (Some l) (Some m) (Some n) x y =
    let z : HasMarks (of_family l.family m.entries) (of_family l.family n.entries) = subst (λ (g : Family). HasMarks (of_family g m.entries) (of_family g n.entries)) x.0 y.1 in
    (y.0 ∙ x.0, record { there = λ r i. x.1.there r (z.there r i); wide = λ r i. x.1.wide r (z.wide r i) })

pub more_at : (at : Option Prefix) (t u : Option Labels) → IsTouchedAt at t u → AreMore t u
more_at None t u x = subst (λ (v : Option Labels). AreMore t v) (sym x) (more_itself t)
more_at (Some p) t u x = more_touched p t u x

wide_still : (a b : Option ℕ) → (is_wide_mark b ≡ false → is_wide_mark a ≡ false) → is_wide_mark a ≡ true → is_wide_mark b ≡ true
wide_still a b f w = by_test (is_wide_mark b) refl
  where
    by_test : (i : Bool) → is_wide_mark b ≡ i → i ≡ true
    by_test true e = refl
    by_test false e = let z : true ≡ false = sym w ∙ f e in absurd cc

-- two dirty prefixes, one after the other
pub touched_both : (p : Prefix) (at : Option Prefix) (t u v : Option Labels) → IsTouched p t u → IsTouchedAt at u v → IsTouched p t v
touched_both p at t u v x y = over t u v (more_at at u v y) x
  where
    over : (t u v : Option Labels) → AreMore u v → IsTouched p t u → IsTouched p t v
    over t u None m x = tt
    over t None (Some n) m x = absurd m
    over None (Some l) (Some n) m x = absurd x
    over (Some l) (Some k) (Some n) m x =
        let z : HasMarks (of_family l.family k.entries) (of_family l.family n.entries) = subst (λ (g : Family). HasMarks (of_family g k.entries) (of_family g n.entries)) x.0 m.1 in
        (m.0 ∙ x.0, record { kept = record { there = λ r i. x.1.kept.there r (z.there r i); wide = λ r i. x.1.kept.wide r (z.wide r i) }; marked = wide_still (entry_at p.bits (of_family l.family k.entries)) (entry_at p.bits (of_family l.family n.entries)) (z.wide p.bits) x.1.marked })

pub touched_places : (route : Route) (o : Option code_prefix.Prefix) (t u : Option Labels) → o ≡ option_map (λ r. r.0) route → IsTouchedAt (option_map prefix_as o) t u → IsTouchedAt (place_in route) t u
touched_places None o t u e x = subst (λ (a : Option code_prefix.Prefix). IsTouchedAt (option_map prefix_as a) t u) e x
touched_places (Some r) o t u e x = subst (λ (a : Option code_prefix.Prefix). IsTouchedAt (option_map prefix_as a) t u) e x

-- a plan's prefix, and what its repair reaches
pub marked_twice : (route : Route) (o : Option code_prefix.Prefix) (at : Option Prefix) (t u v : Option Labels) → o ≡ option_map (λ r. r.0) route → IsTouchedAt (option_map prefix_as o) t u → IsTouchedAt at u v → AreWide (place_in route) t v
marked_twice route o at t u v e x y = here route (touched_places route o t u e x)
  where
    here : (route : Route) → IsTouchedAt (place_in route) t u → AreWide (place_in route) t v
    here None x = more_both t u v (more_at None t u x) (more_at at u v y)
    here (Some r) x = touched_both (prefix_as r.0) at t u v x y

pub known_wide : (at : Option Prefix) (k : Labels) (t u : Option Labels) → AreWide at t u → IsKnown k t → KnownAt at k u
known_wide None k t u a x = known_more k t u a x
known_wide (Some p) k t u a x = known_touched p k t u a x
