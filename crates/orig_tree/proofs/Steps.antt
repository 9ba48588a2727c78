-- One level of each walk down the tree.
use Rattle.std.proofs.Common.{◌≡◌, ◌≢◌, ℕ, ◌-◌, List, [], ◌∷◌, ◌++◌, map, Bool, true, false, ◌||◌, refl, sym, ap, ◌∙◌, Option, Some, None}
use Rattle.std.specs.Prelude.{nat_eq}
use Rattle.std.specs.Int.{bit_at}
use Rattle.std.specs.Option.{unwrap_or}
use Rattle.table_model.specs.Bits.{bits_of, same_bits}
use Rattle.table_model.specs.Table.{Table, root, half, lpm, inherit}
use Rattle.table_model.proofs.Cut.{lpm_nil, lpm_cut}
use Rattle.table_model.specs.Regions.{join}
use Rattle.table_model.proofs.Join.{root_join, low_join, high_join}
use Rattle.orig_tree.specs.Walk.{Walks, no_walks, walks_of, rows_of, edited, CanEdit, labelled, has_node}
use Rattle.orig_tree.specs.declared.node.Label.{Label}
use Rattle.orig_tree.specs.declared.node.Label.TheVariants.{Route, Entry}
use Rattle.orig_tree.proofs.Paths.{no_bits, first_bit, first_one, first_zero}
use Rattle.orig_tree.proofs.Lists.{edit_low, edit_high, edit_own}

pub rows_level : (label : Label) (route entry : Option ℕ) (low high : Walks) → rows_of label (walks_of route entry low high) ≡ join (labelled label route entry) (rows_of label low) (rows_of label high)
rows_level Route route entry low high = refl
rows_level Entry route entry low high = refl

pub lpm_join_end : (o : Option ℕ) (L M : Table) (h : ℕ) → lpm (join o L M) [] h ≡ inherit o h
lpm_join_end o L M h = lpm_nil (join o L M) h ∙ ap (λ x. inherit x h) (root_join o L M)

pub given_is : (o : Option ℕ) (h : ℕ) → inherit o h ≡ unwrap_or o h
given_is None h = refl
given_is (Some g) h = refl

pub answer_here : (label : Label) (route entry : Option ℕ) (low high node : Walks) (left q inherited hop : ℕ) →
    walks_of route entry low high ≡ node → left ≡ 0 → hop ≡ unwrap_or (labelled label route entry) inherited →
    hop ≡ lpm (rows_of label node) (bits_of left q) inherited
answer_here label route entry low high node left q inherited hop w e h =
    h ∙ sym (given_is (labelled label route entry) inherited)
    ∙ sym (ap (λ n. lpm (rows_of label n) (bits_of left q) inherited) (sym w)
    ∙ ap (λ p. lpm (rows_of label (walks_of route entry low high)) p inherited) (no_bits left q e)
    ∙ ap (λ r. lpm r [] inherited) (rows_level label route entry low high)
    ∙ lpm_join_end (labelled label route entry) (rows_of label low) (rows_of label high) inherited)

-- ---- one half, by the law that cuts a table

-- the half of a bit
abbrev pub side_of : Bool → Walks → Walks → Walks
side_of false low high = low
side_of true low high = high

pub level_half : (b : Bool) (label : Label) (route entry : Option ℕ) (low high : Walks) → half b (rows_of label (walks_of route entry low high)) ≡ rows_of label (side_of b low high)
level_half false label route entry low high = ap (half false) (rows_level label route entry low high) ∙ low_join (labelled label route entry) (rows_of label low) (rows_of label high)
level_half true label route entry low high = ap (half true) (rows_level label route entry low high) ∙ high_join (labelled label route entry) (rows_of label low) (rows_of label high)

pub level_root : (label : Label) (route entry : Option ℕ) (low high : Walks) → root (rows_of label (walks_of route entry low high)) ≡ labelled label route entry
level_root label route entry low high = ap root (rows_level label route entry low high) ∙ root_join (labelled label route entry) (rows_of label low) (rows_of label high)

pub answer_half : (label : Label) (route entry : Option ℕ) (low high node : Walks) (left q inherited hop out : ℕ) (b : Bool) →
    walks_of route entry low high ≡ node → left ≢ 0 → b ≡ nat_eq (bit_at q (left - 1)) 1 → hop ≡ unwrap_or (labelled label route entry) inherited →
    out ≡ lpm (rows_of label (side_of b low high)) (bits_of (left - 1) q) hop →
    out ≡ lpm (rows_of label node) (bits_of left q) inherited
answer_half label route entry low high node left q inherited hop out b w z k h o =
    let p = bits_of (left - 1) q in
    let R = rows_of label (walks_of route entry low high) in
    o ∙ sym (ap (λ n. lpm (rows_of label n) (bits_of left q) inherited) (sym w)
    ∙ (ap (λ x. lpm R x inherited) (first_bit left q b z k)
    ∙ (lpm_cut R b p inherited
    ∙ (ap (λ x. lpm x p (inherit (root R) inherited)) (level_half b label route entry low high)
    ∙ ap (lpm (rows_of label (side_of b low high)) p) (ap (λ y. inherit y inherited) (level_root label route entry low high) ∙ (given_is (labelled label route entry) inherited ∙ sym h))))))

-- edits
edited_low : (label : Label) (p : List Bool) (h route entry : Option ℕ) (low high : Walks) → edited label (false ∷ p) h (walks_of route entry low high) ≡ walks_of route entry (edited label p h low) high
edited_low Route p h route entry low high = ap (λ r. record { routes = r; entries = join entry low.entries high.entries; nodes = (walks_of route entry low high).nodes }) (edit_low p h route low.routes high.routes)
edited_low Entry p h route entry low high = ap (λ r. record { routes = join route low.routes high.routes; entries = r; nodes = (walks_of route entry low high).nodes }) (edit_low p h entry low.entries high.entries)

edited_high : (label : Label) (p : List Bool) (h route entry : Option ℕ) (low high : Walks) → edited label (true ∷ p) h (walks_of route entry low high) ≡ walks_of route entry low (edited label p h high)
edited_high Route p h route entry low high = ap (λ r. record { routes = r; entries = join entry low.entries high.entries; nodes = (walks_of route entry low high).nodes }) (edit_high p h route low.routes high.routes)
edited_high Entry p h route entry low high = ap (λ r. record { routes = join route low.routes high.routes; entries = r; nodes = (walks_of route entry low high).nodes }) (edit_high p h entry low.entries high.entries)

-- nodes
has_append : (p : List Bool) (a b : List (List Bool)) → has_node p (a ++ b) ≡ (has_node p a || has_node p b)
has_append p [] b = refl
has_append p (q ∷ a) b = elim (same_bits p q) as (λ t. (t || has_node p (a ++ b)) ≡ ((t || has_node p a) || has_node p b)) [ true ↦ refl | false ↦ has_append p a b ]

has_map : (b : Bool) (p : List Bool) (a : List (List Bool)) → has_node (b ∷ p) (map (λ q. b ∷ q) a) ≡ has_node p a
unfolding same_bits
has_map b p [] = refl
has_map true p (q ∷ a) = ap (λ t. same_bits p q || t) (has_map true p a)
has_map false p (q ∷ a) = ap (λ t. same_bits p q || t) (has_map false p a)

has_other : (b c : Bool) (p : List Bool) (a : List (List Bool)) → b ≢ c → has_node (b ∷ p) (map (λ q. c ∷ q) a) ≡ false
unfolding same_bits
has_other b c p [] n = refl
has_other true true p (q ∷ a) n = absurd (n refl)
has_other true false p (q ∷ a) n = has_other true false p a n
has_other false true p (q ∷ a) n = has_other false true p a n
has_other false false p (q ∷ a) n = absurd (n refl)

or_false : (t : Bool) → (t || false) ≡ t
or_false true = refl
or_false false = refl

pub has_low : (p : List Bool) (route entry : Option ℕ) (low high : Walks) → has_node (false ∷ p) (walks_of route entry low high).nodes ≡ has_node p low.nodes
unfolding same_bits
has_low p route entry low high =
    has_append (false ∷ p) (map (λ q. false ∷ q) low.nodes) (map (λ q. true ∷ q) high.nodes)
    ∙ ap (λ t. has_node (false ∷ p) (map (λ q. false ∷ q) low.nodes) || t) (has_other false true p high.nodes (λ e. cc))
    ∙ or_false _ ∙ has_map false p low.nodes

pub has_high : (p : List Bool) (route entry : Option ℕ) (low high : Walks) → has_node (true ∷ p) (walks_of route entry low high).nodes ≡ has_node p high.nodes
unfolding same_bits
has_high p route entry low high =
    has_append (true ∷ p) (map (λ q. false ∷ q) low.nodes) (map (λ q. true ∷ q) high.nodes)
    ∙ ap (λ t. t || has_node (true ∷ p) (map (λ q. true ∷ q) high.nodes)) (has_other true false p low.nodes (λ e. cc))
    ∙ has_map true p high.nodes

pub rows_nothing : (label : Label) → rows_of label no_walks ≡ []
rows_nothing Route = refl
rows_nothing Entry = refl

edited_own_route : (h route entry : Option ℕ) (low high : Walks) → edited Route [] h (walks_of route entry low high) ≡ walks_of h entry low high
edited_own_route h route entry low high = ap (λ r. record { routes = r; entries = join entry low.entries high.entries; nodes = (walks_of route entry low high).nodes }) (edit_own h route low.routes high.routes)

edited_own_entry : (h route entry : Option ℕ) (low high : Walks) → edited Entry [] h (walks_of route entry low high) ≡ walks_of route h low high
edited_own_entry h route entry low high = ap (λ r. record { routes = join route low.routes high.routes; entries = r; nodes = (walks_of route entry low high).nodes }) (edit_own h entry low.entries high.entries)

pub assign_route : (label : Label) (h route entry : Option ℕ) (low high node : Walks) (left q : ℕ) → left ≡ 0 → label ≡ Route → walks_of route entry low high ≡ node →
    walks_of h entry low high ≡ edited label (bits_of left q) h node
assign_route label h route entry low high node left q e l w =
    sym (ap (λ n. edited label (bits_of left q) h n) (sym w) ∙ ap (λ p. edited label p h (walks_of route entry low high)) (no_bits left q e) ∙ ap (λ k. edited k [] h (walks_of route entry low high)) l ∙ edited_own_route h route entry low high)

pub assign_entry : (label : Label) (h route entry : Option ℕ) (low high node : Walks) (left q : ℕ) → left ≡ 0 → label ≡ Entry → walks_of route entry low high ≡ node →
    walks_of route h low high ≡ edited label (bits_of left q) h node
assign_entry label h route entry low high node left q e l w =
    sym (ap (λ n. edited label (bits_of left q) h n) (sym w) ∙ ap (λ p. edited label p h (walks_of route entry low high)) (no_bits left q e) ∙ ap (λ k. edited k [] h (walks_of route entry low high)) l ∙ edited_own_entry h route entry low high)

pub assign_high : (label : Label) (h route entry : Option ℕ) (low high node after : Walks) (left q : ℕ) → left ≢ 0 → true ≡ nat_eq (bit_at q (left - 1)) 1 → walks_of route entry low high ≡ node →
    after ≡ edited label (bits_of (left - 1) q) h high →
    walks_of route entry low after ≡ edited label (bits_of left q) h node
assign_high label h route entry low high node after left q e b w a =
    ap (walks_of route entry low) a
    ∙ sym (ap (λ n. edited label (bits_of left q) h n) (sym w) ∙ ap (λ p. edited label p h (walks_of route entry low high)) (first_one left q e b) ∙ edited_high label (bits_of (left - 1) q) h route entry low high)

pub assign_low : (label : Label) (h route entry : Option ℕ) (low high node after : Walks) (left q : ℕ) → left ≢ 0 → false ≡ nat_eq (bit_at q (left - 1)) 1 → walks_of route entry low high ≡ node →
    after ≡ edited label (bits_of (left - 1) q) h low →
    walks_of route entry after high ≡ edited label (bits_of left q) h node
assign_low label h route entry low high node after left q e b w a =
    ap (λ n. walks_of route entry n high) a
    ∙ sym (ap (λ n. edited label (bits_of left q) h n) (sym w) ∙ ap (λ p. edited label p h (walks_of route entry low high)) (first_zero left q e b) ∙ edited_low label (bits_of (left - 1) q) h route entry low high)

pub allowed_high : (h route entry : Option ℕ) (low high node : Walks) (left q : ℕ) → left ≢ 0 → true ≡ nat_eq (bit_at q (left - 1)) 1 → walks_of route entry low high ≡ node →
    CanEdit (bits_of left q) h node.nodes → CanEdit (bits_of (left - 1) q) h high.nodes
allowed_high None route entry low high node left q e b w a = tt
allowed_high (Some h) route entry low high node left q e b w a =
    sym (has_high (bits_of (left - 1) q) route entry low high) ∙ ap (λ p. has_node p (walks_of route entry low high).nodes) (sym (first_one left q e b)) ∙ ap (λ n. has_node (bits_of left q) n.nodes) w ∙ a

pub allowed_low : (h route entry : Option ℕ) (low high node : Walks) (left q : ℕ) → left ≢ 0 → false ≡ nat_eq (bit_at q (left - 1)) 1 → walks_of route entry low high ≡ node →
    CanEdit (bits_of left q) h node.nodes → CanEdit (bits_of (left - 1) q) h low.nodes
allowed_low None route entry low high node left q e b w a = tt
allowed_low (Some h) route entry low high node left q e b w a =
    sym (has_low (bits_of (left - 1) q) route entry low high) ∙ ap (λ p. has_node p (walks_of route entry low high).nodes) (sym (first_zero left q e b)) ∙ ap (λ n. has_node (bits_of left q) n.nodes) w ∙ a

-- nothing is edited where nothing may be set
pub edited_nothing : (label : Label) (h : Option ℕ) (p : List Bool) → CanEdit p h [] → no_walks ≡ edited label p h no_walks
edited_nothing Route None p a = refl
edited_nothing Entry None p a = refl
edited_nothing label (Some h) p a = cc

-- rooms
pub room_here : (node : Walks) (route entry : Option ℕ) (low high : Walks) (left q : ℕ) → left ≡ 0 → walks_of route entry low high ≡ node → has_node (bits_of left q) node.nodes ≡ true
unfolding same_bits
room_here node route entry low high left q e w = ap (λ n. has_node (bits_of left q) n.nodes) (sym w) ∙ ap (λ p. has_node p (walks_of route entry low high).nodes) (no_bits left q e)

has_half : (b : Bool) (p : List Bool) (route entry : Option ℕ) (low high : Walks) → has_node (b ∷ p) (walks_of route entry low high).nodes ≡ has_node p (side_of b low high).nodes
has_half false p route entry low high = has_low p route entry low high
has_half true p route entry low high = has_high p route entry low high

pub room_half : (b : Bool) (route entry : Option ℕ) (low high : Walks) (left q : ℕ) → left ≢ 0 → b ≡ nat_eq (bit_at q (left - 1)) 1
    → has_node (bits_of (left - 1) q) (side_of b low high).nodes ≡ has_node (bits_of left q) (walks_of route entry low high).nodes
room_half b route entry low high left q z k = sym (ap (λ p. has_node p (walks_of route entry low high).nodes) (first_bit left q b z k) ∙ has_half b (bits_of (left - 1) q) route entry low high)

pub kept_high : (route entry : Option ℕ) (low high after node : Walks) → walks_of route entry low high ≡ node → ((p : List Bool) → has_node p high.nodes ≡ true → has_node p after.nodes ≡ true) →
    (p : List Bool) → has_node p node.nodes ≡ true → has_node p (walks_of route entry low after).nodes ≡ true
unfolding same_bits
kept_high route entry low high after node w k [] h = refl
kept_high route entry low high after node w k (true ∷ p) h = has_high p route entry low after ∙ k p (sym (has_high p route entry low high) ∙ ap (λ n. has_node (true ∷ p) n.nodes) w ∙ h)
kept_high route entry low high after node w k (false ∷ p) h = has_low p route entry low after ∙ sym (has_low p route entry low high) ∙ ap (λ n. has_node (false ∷ p) n.nodes) w ∙ h

pub kept_low : (route entry : Option ℕ) (low high after node : Walks) → walks_of route entry low high ≡ node → ((p : List Bool) → has_node p low.nodes ≡ true → has_node p after.nodes ≡ true) →
    (p : List Bool) → has_node p node.nodes ≡ true → has_node p (walks_of route entry after high).nodes ≡ true
unfolding same_bits
kept_low route entry low high after node w k [] h = refl
kept_low route entry low high after node w k (false ∷ p) h = has_low p route entry after high ∙ k p (sym (has_low p route entry low high) ∙ ap (λ n. has_node (false ∷ p) n.nodes) w ∙ h)
kept_low route entry low high after node w k (true ∷ p) h = has_high p route entry after high ∙ sym (has_high p route entry low high) ∙ ap (λ n. has_node (true ∷ p) n.nodes) w ∙ h
