-- What a state leads to, one record after another.
use Rattle.std.proofs.Common.{◌≡◌, ℕ, zero, suc, ◌+◌, ◌*◌, ◌%◌, ◌<◌, ◌≤◌, Bool, List, [], ◌∷◌, ◌++◌, length, get_or, refl, sym, ap, ◌∙◌, zero-add, arith}
use Rattle.std.specs.Prelude.{map, ◌==◌}
use Rattle.std.specs.List.{range_with_len}
use Rattle.std.proofs.lemmas.List.{length-take-le, length-map, map-append}
use Rattle.std.proofs.lemmas.List.FromFn.{map-range_with_len_more, get_or-map-range_with_len, length-map-range_with_len}
use Rattle.std.proofs.lemmas.Nat.{mod_below}
use Rattle.table_model.specs.Bits.{bits_of}
use Rattle.table_model.proofs.BitLaws.{length-bits_of}
use Rattle.made_input.specs.Draws.{state_after, draw}
use Rattle.made_input.specs.Drawn.{DrawnRoute, DrawnOffer, route, attrs, entry_route, update_state, is_withdrawal, update_route, update_attrs}
use Rattle.wire_model.specs.Octets.{record_octets}
use Rattle.made_input.specs.Files.{message_octets, session_body, update_body, update_record, updates_octets}
use Rattle.made_input.proofs.Bounds.{IsRoute, IsOffer}
use Rattle.made_input.specs.Views.{drawn_route_as, drawn_attrs_as, next_update}
use Rattle.made_input.specs.declared.route.Route as code_route
use Rattle.made_input.specs.declared.route.PathAttrs as code_attrs
use Rattle.made_input.proofs.Drawing.{state-add, draw-add}

pub is_route : (r : code_route.Route) → IsRoute (drawn_route_as r)
is_route r = record {
  family = refl;
  few = let few : r.len ≤ 24 = r.few in omega (arith, length-take-le r.len (bits_of 32 r.address) (omega (arith, length-bits_of 32 r.address)));
  peer = r.known;
}

pub is_attrs : (o : code_attrs.PathAttrs) → IsOffer (drawn_attrs_as o)
is_attrs o = record { path = o.short; some = o.some; hop = o.known }

-- five draws further
pub five_more : (x y z i : ℕ) → y ≡ state_after x (5 * i) → z ≡ state_after y 5 → z ≡ state_after x (5 * (i + 1))
five_more x y z i e h =
    let n : 5 * i + 5 ≡ 5 * (i + 1) = omega arith in
    h ∙ (ap (λ (s : ℕ). state_after s 5) e ∙ (state-add x (5 * i) 5 ∙ ap (state_after x) n))

-- four draws further
pub four_more : (x y z i : ℕ) → y ≡ state_after x (4 * i) → z ≡ state_after y 4 → z ≡ state_after x (4 * (i + 1))
four_more x y z i e h =
    let n : 4 * i + 4 ≡ 4 * (i + 1) = omega arith in
    h ∙ (ap (λ (s : ℕ). state_after s 4) e ∙ (state-add x (4 * i) 4 ∙ ap (state_after x) n))

-- ---- the dump

-- one more value of a function of the number
pub value_more : {X : Type 0} (f : ℕ → X) (xs new : List X) (x : X) (i : ℕ) → xs ≡ map f (range_with_len 0 i) → new ≡ xs ++ x ∷ [] → x ≡ f i → new ≡ map f (range_with_len 0 (i + 1))
value_more f xs new x i e h k =
    h ∙ (ap (λ (ys : List _). ys ++ x ∷ []) e ∙ (ap (λ (y : _). map f (range_with_len 0 i) ++ y ∷ []) k ∙ sym (map-range_with_len_more f 0 i i (zero-add i))))

-- ---- the updates

pub record_is : (out update session : List ℕ) (gone : Bool) (r : DrawnRoute) (o : DrawnOffer) → update ≡ update_body gone r o → session ≡ session_body r.peer (message_octets update) → out ++ record_octets 16 4 session ≡ out ++ update_record gone r o
unfolding update_record
record_is out update session gone r o e h = rw (h, e) refl

-- the route at a place of a list
pub place_read : (routes : List code_route.Route) (i : ℕ) (r : code_route.Route) (d : DrawnRoute) → i < length routes → r ≡ get_or routes i r → drawn_route_as r ≡ get_or (map drawn_route_as routes) i d
place_read [] i r d h e = absurd (omega arith)
place_read (q ∷ routes) zero r d h e = ap drawn_route_as e
place_read (q ∷ routes) (suc i) r d h e = place_read routes i r d (omega arith) e

pub update_follows : (x y : ℕ) (routes : List code_route.Route) (d e : ℕ) (r : code_route.Route) (o : DrawnOffer) → d ≡ draw x 0 → y ≡ state_after x 1 → e ≡ draw y 0 → 0 < length routes → r ≡ get_or routes (d % length routes) r → o ≡ attrs (state_after x 2)
    → update_record (e % 4 == 0) (drawn_route_as r) o ≡ next_update (map drawn_route_as routes) x
update_follows x y routes d e r o first state second some place last =
    let kind : e ≡ draw x 1 = second ∙ (ap (λ (s : ℕ). draw s 0) state ∙ draw-add x 1 0) in
    let within : d % length routes < length routes = mod_below d (length routes) some in
    let at = place_read routes (d % length routes) r (route 0) within place in
    let index : d % length routes ≡ draw x 0 % length (map drawn_route_as routes) = ap (λ (n : ℕ). n % length routes) first ∙ ap (λ (n : ℕ). draw x 0 % n) (sym (length-map routes drawn_route_as)) in
    rw (at, index, kind, last) refl

-- update j of n entries
abbrev pub update_of : ℕ → ℕ → ℕ → List ℕ
update_of seed n j = update_record (is_withdrawal seed n j) (update_route seed n j) (update_attrs seed n j)

pub update_is : (seed n j x : ℕ) (routes : List DrawnRoute) → routes ≡ map (entry_route seed) (range_with_len 0 n) → x ≡ update_state seed n j → 0 < n → next_update routes x ≡ update_of seed n j
update_is seed n j x routes e h some =
    let pick = draw (update_state seed n j) 0 % n in
    let within : pick < n = mod_below (draw (update_state seed n j) 0) n some in
    rw (e, h, length-map-range_with_len (entry_route seed) 0 n, get_or-map-range_with_len (entry_route seed) 0 n pick pick (route 0) within (zero-add pick)) refl

-- one more route is kept
pub routes_more : (x y i : ℕ) (old new : List code_route.Route) (r : code_route.Route) → map drawn_route_as old ≡ map (entry_route x) (range_with_len 0 i) → y ≡ state_after x (5 * i) → new ≡ old ++ r ∷ [] → drawn_route_as r ≡ route y → map drawn_route_as new ≡ map (entry_route x) (range_with_len 0 (i + 1))
routes_more x y i old new r e state h k =
    value_more (entry_route x) (map drawn_route_as old) (map drawn_route_as new) (drawn_route_as r) i e (ap (map drawn_route_as) h ∙ map-append drawn_route_as old (r ∷ [])) (k ∙ ap route state)

-- the updates' states stand behind the entries' draws
pub update_state_is : (seed n x y j : ℕ) → x ≡ state_after seed (5 * n) → y ≡ state_after x (4 * j) → y ≡ update_state seed n j
update_state_is seed n x y j e h = h ∙ (ap (λ (s : ℕ). state_after s (4 * j)) e ∙ state-add seed (5 * n) (4 * j))

-- no step
pub no_step : (x : ℕ) → x ≡ state_after x 0
unfolding state_after
no_step x = refl

-- ---- both files

pub routes_count : (x n : ℕ) (routes : List code_route.Route) → map drawn_route_as routes ≡ map (entry_route x) (range_with_len 0 n) → length routes ≡ n
routes_count x n routes e = sym (length-map routes drawn_route_as) ∙ (ap length e ∙ length-map-range_with_len (entry_route x) 0 n)

pub updates_made : (x y seed n : ℕ) (given routes : List code_route.Route) (out : List ℕ) → x ≡ seed → given ≡ routes → map drawn_route_as routes ≡ map (entry_route x) (range_with_len 0 n) → y ≡ state_after x (5 * n)
    → ((s : ℕ) → map drawn_route_as given ≡ map (entry_route s) (range_with_len 0 (length given)) → y ≡ state_after s (5 * length given) → out ≡ updates_octets s (length given)) → out ≡ updates_octets seed n
updates_made x y seed n given routes out begins same drawn state made =
    let count : length given ≡ n = ap length same ∙ routes_count x n routes drawn in
    let all : map drawn_route_as given ≡ map (entry_route x) (range_with_len 0 (length given)) = ap (map drawn_route_as) same ∙ (drawn ∙ ap (λ (k : ℕ). map (entry_route x) (range_with_len 0 k)) (sym count)) in
    let behind : y ≡ state_after x (5 * length given) = state ∙ ap (λ (k : ℕ). state_after x (5 * k)) (sym count) in
    made x all behind ∙ (ap (updates_octets x) count ∙ ap (λ (s : ℕ). updates_octets s n) begins)
