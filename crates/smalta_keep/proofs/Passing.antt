-- The pass of a snapshot.
use Rattle.std.proofs.Common.{◌≡◌, ◌≢◌, ◌+◌, ◌-◌, ℕ, zero, suc, List, [], ◌∷◌, ◌++◌, ◌||◌, Bool, true, false, Option, Some, None, length, map, refl, sym, ap, subst, ◌∙◌, arith, append_assoc, append-nil}
use Rattle.std.specs.Prelude.{is_some, IfSome}
use Rattle.std.specs.Option.{option_to_list}
use Rattle.table_model.specs.Address.{Prefix}
use Rattle.table_model.specs.Width.{width}
use Rattle.table_model.specs.Halves.{half_at}
use Rattle.table_model.specs.Table.{Table, IsTable, root, half, here, inherit, lpm}
use Rattle.table_model.proofs.Cut.{lpm_cut, lpm_nil}
use Rattle.table_model.specs.Entries.{Entries, of_table}
use Rattle.table_model.specs.Regions.{lift, join, entry_at}
use Rattle.table_model.specs.Sets.{side, set_of, own, agg}
use Rattle.table_model.proofs.Join.{table_join}
use Rattle.table_model.proofs.Patch.{table_half}
use Rattle.table_model.proofs.Same.{cut_nil}
use Rattle.table_model.proofs.Cost.{agg_root}
use Rattle.kept_model.specs.Stays.{Stays, Settled, is_wide_mark}
use Rattle.kept_model.specs.Parts.{BothOrNeither, ArePart, HasNoHalves}
use Rattle.kept_model.proofs.Again.{agg_same, agg_half}
use Rattle.kept_model.proofs.Settling.{settled_half, settled_clean}
use Rattle.kept_model.proofs.Parting.{part_none, part_here, part_join, end_no_bit}
use Rattle.fib_addr.specs.Views.{entry_as}
use Rattle.fib_addr.specs.declared.prefix.Prefix as code
use Rattle.orig_tree.specs.Spots.{Spot, spot_answers}
use Rattle.orig_tree.specs.Walk.{behind}
use Rattle.orig_tree.proofs.Telling as telling
use Rattle.ortc.proofs.Alike.{half_answers}
use Rattle.ortc.proofs.Falling.{leaf_agg}
use Rattle.smalta_keep.specs.declared.place.Place.{Place}
use Rattle.smalta_keep.specs.declared.place.Rerouted.{Rerouted}
use Rattle.smalta_keep.specs.declared.place.Rerouted.TheVariants.{Nowhere, Here, Above}
use Rattle.smalta_keep.specs.Places.{half_rerouted, IsSheltered, IsClear, IsHalfClear, IsBefore, IsSettledPlace, IsPassPlace, IsPassHalf}
use Rattle.smalta_keep.specs.declared.pass.Differing.{Differing}
use Rattle.smalta_keep.specs.Passes.{IsPass, IsHalfPass}

none_at : (q : List Bool) → entry_at q [] ≡ None
none_at q = ap root (cut_nil q)

-- ---- halves

neither : (a b : Bool) → (a || b) ≡ false → (a ≡ false) × (b ≡ false)
neither true b e = cc
neither false b e = (refl, e)

bits_down : (P : ℕ → Type 0) (m n : ℕ) → suc m ≡ n → P n → P (suc m)
bits_down P m n e x = subst P (sym e) x

-- the answers before in a half
before_half : (r : Rerouted) (f : List Bool → ℕ) (s t : Spot) (R S : Table) (b : Bool) → t.routes ≡ half b s.routes → t.hop ≡ inherit (root s.routes) s.hop → S ≡ half b R → IsBefore r f s R → IsBefore (half_rerouted r) (side b f) t S
before_half Nowhere f s t R S b u v e x = λ a. x (b ∷ a) ∙ sym (half_answers s t b u v a)
before_half Here f s t R S b u v e (g, w, k, y) =
    (g, λ a. w b a ∙ ap (λ T. lpm T a g) (sym e), inherit (root R) k, λ a. half_answers s t b u v a ∙ (y (b ∷ a) ∙ (lpm_cut R b a k ∙ ap (λ T. lpm T a (inherit (root R) k)) (sym e))))
before_half Above f s t R S b u v e (g, w, k, y) =
    (inherit (root R) g, λ a. w (b ∷ a) ∙ (lpm_cut R b a g ∙ ap (λ T. lpm T a (inherit (root R) g)) (sym e)), inherit (root R) k, λ a. half_answers s t b u v a ∙ (y (b ∷ a) ∙ (lpm_cut R b a k ∙ ap (λ T. lpm T a (inherit (root R) k)) (sym e))))

module _ (p q : Place) (b : Bool) (h g : ℕ) (x : IsPassPlace p h) (bits : suc q.region.bits ≡ p.region.bits) (routes : q.region.routes ≡ half b p.region.routes) (entries : q.region.entries ≡ half b p.region.entries) (hop : q.region.hop ≡ inherit (root p.region.routes) p.region.hop)
    (paths : (behind q.node).routes ≡ half b (behind p.node).routes) (node : (behind q.node).entries ≡ half b (behind p.node).entries) (dirty : (behind q.dirty).entries ≡ half b (behind p.dirty).entries)
    (marked : q.marked ≡ (p.marked || is_wide_mark (root (behind p.dirty).entries))) (rerouted : q.rerouted ≡ half_rerouted p.rerouted) (below : g ≡ inherit (root p.region.entries) h) where
  held_half : q.marked ≡ false → IsSettledPlace q g
  held_half e =
      let n = neither p.marked (is_wide_mark (root (behind p.dirty).entries)) (sym marked ∙ e) in
      let y = x.known n.0 in
      let s : Settled (suc q.region.bits) y.before p.region.entries h (behind p.dirty).entries =
      bits_down (λ d. Settled d y.before p.region.entries h (behind p.dirty).entries) q.region.bits p.region.bits bits y.settled
      in
      let t = settled_half q.region.bits y.before p.region.entries h (behind p.dirty).entries b s n.1 in
      record {
        before = side b y.before;
        settled =
            subst (λ (L : Table). Settled q.region.bits (side b y.before) L g (behind q.dirty).entries) (sym entries)
            (subst (λ (k : ℕ). Settled q.region.bits (side b y.before) (half b p.region.entries) k (behind q.dirty).entries) (sym below)
            (subst (λ (M : Table). Settled q.region.bits (side b y.before) (half b p.region.entries) (inherit (root p.region.entries) h) M) (sym dirty) t));
        was = subst (λ (r : Rerouted). IsBefore r (side b y.before) q.region (behind q.node).routes) (sym rerouted) (before_half p.rerouted y.before p.region q.region (behind p.node).routes (behind q.node).routes b routes hop paths y.was);
      }

  pub place_half : IsPassPlace q g
  place_half = record {
    node = node ∙ (ap (half b) x.node ∙ sym entries);
    table = subst (λ (L : Table). IsTable q.region.bits L) (sym entries) (table_half b q.region.bits p.region.entries (bits_down (λ d. IsTable d p.region.entries) q.region.bits p.region.bits bits x.table));
    known = held_half;
  }

-- ---- a region that is off the dirty prefixes and sheltered

same_inherit : (o : Option ℕ) (g k : ℕ) → is_some o ≡ true → inherit o g ≡ inherit o k
same_inherit None g k i = cc
same_inherit (Some h) g k i = refl

-- what is inherited doesn't pass a route
kept_out : (R : Table) (a : List Bool) (g k : ℕ) → is_some (root R) ≡ true → lpm R a g ≡ lpm R a k
kept_out R [] g k i = lpm_nil R g ∙ (same_inherit (root R) g k i ∙ sym (lpm_nil R k))
kept_out R (b ∷ a) g k i = lpm_cut R b a g ∙ (ap (lpm (half b R) a) (same_inherit (root R) g k i) ∙ sym (lpm_cut R b a k))

sheltered_same : (r : Rerouted) (f : List Bool → ℕ) (s : Spot) (R : Table) → IsSheltered r R → IsBefore r f s R → (a : List Bool) → f a ≡ spot_answers s a
sheltered_same Nowhere f s R i x a = x a
sheltered_same Here f s R i x a = absurd i
sheltered_same Above f s R i (g, w, k, y) a = w a ∙ (kept_out R a g k i ∙ sym (y a))

pub clear_stays : (p : Place) (h : ℕ) → IsPassPlace p h → IsClear p → Stays p.region.bits (spot_answers p.region) p.region.entries h
clear_stays p h x o = λ z.
    ap (entry_at z) (agg_same s.bits (spot_answers s) y.before s.entries s.entries h (λ a l. sym (sheltered_same p.rerouted y.before s (behind p.node).routes o.sheltered y.was a)) (λ q. refl)) ∙ was z
  where
    s : Spot
    s = p.region

    y : IsSettledPlace p h
    y = x.known o.within

    was : Stays p.region.bits y.before p.region.entries h
    was = settled_clean p.region.bits y.before p.region.entries h (behind p.dirty).entries y.settled o.dirty.wide (λ b r. ap (entry_at r) (o.dirty.below b) ∙ none_at r)

-- ---- what is told

no_table : (d : ℕ) → IsTable d []
no_table d = (tt, tt)

here_table : (d : ℕ) (o : Option ℕ) → IsTable d (here o)
here_table d None = (tt, tt)
here_table d (Some h) = ((tt, tt), (omega arith, tt))

-- a region that is left out
pub pass_nothing : (p : Place) (q : Prefix) (h g : ℕ) (out : Differing) → IsPassPlace p h → IsClear p → h ≡ g → IsPass q p.region g out out
pass_nothing p q h g out x o e = record {
  had = [];
  gets = [];
  old = sym (append-nil (map entry_as out.had.items));
  new = sym (append-nil (map entry_as out.gets.items));
  had_table = no_table p.region.bits;
  gets_table = no_table p.region.bits;
  part = part_none p.region.entries (agg p.region.bits (spot_answers p.region) p.region.entries g) (subst (λ (k : ℕ). Stays p.region.bits (spot_answers p.region) p.region.entries k) e (clear_stays p h x o));
}

-- a half that is left out
pub half_left : (p : Place) (b : Bool) (q : Prefix) (h g : ℕ) (out : Differing) → p.region.bits ≢ 0 → IsPassHalf p h → IsHalfClear b p → h ≡ g → IsHalfPass b q p.region g out out
half_left p b q h g out n x o e = record {
  spot = s;
  bits = bits;
  routes = refl;
  entries = refl;
  hop = refl;
  pass = pass_nothing r (half_at b q) h g out (place_half p r b x.above h x.place bits refl refl refl refl refl refl (sym o.within) (sym (ap half_rerouted o.nowhere)) x.below) clear e;
}
  where
    s : Spot
    s = record { bits = p.region.bits - 1; routes = half b p.region.routes; entries = half b p.region.entries; nodes = []; hop = inherit (root p.region.routes) p.region.hop }

    bits : suc s.bits ≡ p.region.bits
    bits = omega (arith, n)

    r : Place
    r = record {
      region = s;
      node = Some (record { routes = half b (behind p.node).routes; entries = half b (behind p.node).entries; nodes = [] });
      dirty = Some (record { routes = []; entries = half b (behind p.dirty).entries; nodes = [] });
      marked = false;
      rerouted = Nowhere;
    }

    clear : IsClear r
    clear = record { within = refl; dirty = record { wide = ap (λ (T : Table). is_wide_mark (root T)) o.dirty; below = λ c. ap (half c) o.dirty }; sheltered = tt }

own_both : (s : Spot) (g : ℕ) (had gets o n : Option ℕ) → had ≡ root s.entries → gets ≡ own (set_of s.bits (spot_answers s)) (root s.entries) g → BothOrNeither had gets o n → BothOrNeither (root s.entries) (root (agg s.bits (spot_answers s) s.entries g)) o n
own_both s g had gets o n e f x =
    subst (λ (a : Option ℕ). BothOrNeither a (root (agg s.bits (spot_answers s) s.entries g)) o n) e (subst (λ (b : Option ℕ). BothOrNeither had b o n) (f ∙ sym (agg_root s.bits (spot_answers s) s.entries g)) x)

-- one with nothing below its prefix
pub pass_end : (s : Spot) (q : Prefix) (g : ℕ) (had gets o n : Option ℕ) (before after : Differing) → HasNoHalves s.bits (spot_answers s) s.entries → had ≡ root s.entries → gets ≡ own (set_of s.bits (spot_answers s)) (root s.entries) g → BothOrNeither had gets o n
    → map entry_as after.had.items ≡ map entry_as before.had.items ++ map (λ k. (q, k)) (option_to_list o) → map entry_as after.gets.items ≡ map entry_as before.gets.items ++ map (λ k. (q, k)) (option_to_list n) → IsPass q s g before after
pass_end s q g had gets o n before after end e f x y z = record {
  had = here o;
  gets = here n;
  old = y ∙ ap (λ L. map entry_as before.had.items ++ L) (telling.told_own q o);
  new = z ∙ ap (λ L. map entry_as before.gets.items ++ L) (telling.told_own q n);
  had_table = here_table s.bits o;
  gets_table = here_table s.bits n;
  part = part_here s.entries (agg s.bits (spot_answers s) s.entries g) o n (λ b. end b g) (own_both s g had gets o n e f x);
}

-- and one of two halves
three_lists : (p : Prefix) (o : Option ℕ) (A B : Table) (X Y Z W : Entries) → Y ≡ X ++ map (λ k. (p, k)) (option_to_list o)
    → Z ≡ Y ++ of_table p.family (lift (half_at false p).bits A) → W ≡ Z ++ of_table p.family (lift (half_at true p).bits B) → W ≡ X ++ of_table p.family (lift p.bits (join o A B))
three_lists p o A B X Y Z W y z w =
    let m = p.family in
    let P = p.bits in
    let O = of_table m (lift P (here o)) in
    let C = of_table m (lift (P ++ (false ∷ [])) A) in
    let D = of_table m (lift (P ++ (true ∷ [])) B) in
    let whole : of_table m (lift P (join o A B)) ≡ O ++ (C ++ D) =
    ap (of_table m) (telling.lift_join P o A B) ∙ (telling.seen_append m (lift P (here o)) (lift (P ++ (false ∷ [])) A ++ lift (P ++ (true ∷ [])) B)
    ∙ ap (λ x. O ++ x) (telling.seen_append m (lift (P ++ (false ∷ [])) A) (lift (P ++ (true ∷ [])) B)))
    in
    w ∙ (ap (λ x. x ++ D) (z ∙ ap (λ x. x ++ C) (y ∙ ap (λ x. X ++ x) (telling.told_own p o))) ∙ (append_assoc (X ++ O) C D ∙ (append_assoc X O (C ++ D) ∙ ap (λ x. X ++ x) (sym whole))))

half_part : (s t : Spot) (b : Bool) (g k : ℕ) (gets : Option ℕ) (O N : Table) → suc t.bits ≡ s.bits → t.routes ≡ half b s.routes → t.entries ≡ half b s.entries → t.hop ≡ inherit (root s.routes) s.hop → gets ≡ own (set_of s.bits (spot_answers s)) (root s.entries) g → k ≡ inherit gets g
    → ArePart t.entries (agg t.bits (spot_answers t) t.entries k) O N → ArePart (half b s.entries) (half b (agg s.bits (spot_answers s) s.entries g)) O N
half_part s t b g k gets O N n r l h f i x =
    let f' = spot_answers s in
    let L = s.entries in
    let told : agg t.bits (spot_answers t) t.entries k ≡ half b (agg s.bits f' L g) =
    agg_same t.bits (spot_answers t) (side b f') t.entries (half b L) k (λ a u. half_answers s t b r h a) (λ y. ap (entry_at y) l)
    ∙ (ap (agg t.bits (side b f') (half b L)) (i ∙ ap (λ (o : Option ℕ). inherit o g) (f ∙ sym (agg_root s.bits f' L g)))
    ∙ down (λ (d : ℕ). half b (agg d f' L g)) (λ (d : ℕ). root (agg d f' L g)) n)
    in
    subst (λ (M : Table). ArePart M (half b (agg s.bits f' L g)) O N) l (subst (λ (A : Table). ArePart t.entries A O N) told x)
  where
    down : (P : ℕ → Table) (Q : ℕ → Option ℕ) → suc t.bits ≡ s.bits → agg t.bits (side b (spot_answers s)) (half b s.entries) (inherit (root (agg s.bits (spot_answers s) s.entries g)) g) ≡ half b (agg s.bits (spot_answers s) s.entries g)
    down P Q e = subst (λ (d : ℕ). agg t.bits (side b (spot_answers s)) (half b s.entries) (inherit (root (agg d (spot_answers s) s.entries g)) g) ≡ half b (agg d (spot_answers s) s.entries g)) e (sym (agg_half b t.bits (spot_answers s) s.entries g))

module _ (p : Prefix) (s : Spot) (g k : ℕ) (had gets o n : Option ℕ) (a b c d : Differing) (e : had ≡ root s.entries) (f : gets ≡ own (set_of s.bits (spot_answers s)) (root s.entries) g) (i : k ≡ inherit gets g) (x : BothOrNeither had gets o n)
    (y : map entry_as b.had.items ≡ map entry_as a.had.items ++ map (λ k. (p, k)) (option_to_list o)) (z : map entry_as b.gets.items ≡ map entry_as a.gets.items ++ map (λ k. (p, k)) (option_to_list n))
    (low : IsHalfPass false p s k b c) (high : IsHalfPass true p s k c d) where
  pub pass_join : IsPass p s g a d
  pass_join =
      let v = low.pass in
      let w = high.pass in
      let same : high.spot.bits ≡ low.spot.bits = omega (arith, low.bits, high.bits) in
      record {
        had = join o v.had w.had;
        gets = join n v.gets w.gets;
        old = three_lists p o v.had w.had (map entry_as a.had.items) (map entry_as b.had.items) (map entry_as c.had.items) (map entry_as d.had.items) y v.old w.old;
        new = three_lists p n v.gets w.gets (map entry_as a.gets.items) (map entry_as b.gets.items) (map entry_as c.gets.items) (map entry_as d.gets.items) z v.new w.new;
        had_table = subst (λ (m : ℕ). IsTable m (join o v.had w.had)) low.bits (table_join o low.spot.bits v.had w.had v.had_table (subst (λ (m : ℕ). IsTable m w.had) same w.had_table));
        gets_table = subst (λ (m : ℕ). IsTable m (join n v.gets w.gets)) low.bits (table_join n low.spot.bits v.gets w.gets v.gets_table (subst (λ (m : ℕ). IsTable m w.gets) same w.gets_table));
        part = part_join s.entries (agg s.bits (spot_answers s) s.entries g) o n v.had v.gets w.had w.gets (own_both s g had gets o n e f x) (half_part s low.spot false g k gets v.had v.gets low.bits low.routes low.entries low.hop f i v.part) (half_part s high.spot true g k gets w.had w.gets high.bits high.routes high.entries high.hop f i w.part);
      }

-- ---- ends

pub end_last : (s : Spot) (p : code.Prefix) → s.bits + p.len ≡ width p.family → p.len ≡ width p.family → IsTable s.bits s.entries → HasNoHalves s.bits (spot_answers s) s.entries
end_last s p n e t =
    let z : s.bits ≡ zero = omega (arith, n, e) in
    subst (λ (d : ℕ). HasNoHalves d (spot_answers s) s.entries) (sym z) (end_no_bit (spot_answers s) s.entries (subst (λ (d : ℕ). IsTable d s.entries) z t))

half_here : (b : Bool) (o : Option ℕ) → half b (here o) ≡ []
half_here true None = refl
half_here false None = refl
half_here true (Some g) = refl
half_here false (Some g) = refl

-- below a node that is the last of its way, with a region whose addresses all get one hop
pub end_leaf : (s : Spot) (L : Table) (o : Option ℕ) → L ≡ s.entries → ((b : Bool) → half b L ≡ []) → IfSome o (λ h. (a : List Bool) → length a ≡ s.bits → spot_answers s a ≡ h) → is_some o ≡ true → HasNoHalves s.bits (spot_answers s) s.entries
end_leaf s L None e n u z = absurd cc
end_leaf s L (Some x) e n u z = λ b h. (ap (half b) (sym e) ∙ n b, ap (half b) (sym (leaf_agg s.bits (spot_answers s) s.entries x h u)) ∙ half_here b _)
