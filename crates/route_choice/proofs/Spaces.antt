-- The room for a plan stays.
use Rattle.std.proofs.Common.{◌≡◌, ◌++◌, ℕ, List, Bool, true, false, Option, Some, None, refl, sym, ap, subst, ◌∙◌}
use Rattle.std.specs.Prelude.{◌||◌, IfSome, MatchOption, is_some, option_map}
use Rattle.std.proofs.lemmas.Option.{MatchOption-at_some, MatchOption-at_none}
use Rattle.fib_prefix.specs.Views.{elem_as}
use Rattle.route_model.specs.Events as model
use Rattle.adj_rib_in.specs.Flat.{Offers, SameOffers, ShareNoKey}
use Rattle.adj_rib_in.proofs.Parts.{apart_same, under_apart}
use Rattle.adj_rib_in.proofs.Holds.{same_value}
use Rattle.std.specs.Map.{lookup}
use Rattle.std.specs.BTreeMap.{is_at}
use Rattle.fib_prefix.specs.declared.event.Elem.{Elem}
use Rattle.adj_rib_in.specs.declared.keys.PathKey.{PathKey}
use Rattle.adj_rib_in.specs.declared.keys.Rank.{Rank}
use Rattle.adj_rib_in.specs.declared.keys.PathAttrs.{PathAttrs}
use Rattle.adj_rib_in.specs.declared.flat.Flat.{Flat}
use Rattle.adj_rib_in.specs.Orders.{key_cmp}
use Rattle.adj_rib_in.specs.Paths.{Paths}
use Rattle.adj_rib_in.specs.Flat.{IsSlotOf, HasNoKey, Grows, flat_paths}
use Rattle.adj_rib_in.proofs.Flats.{slot_stays}
use Rattle.route_choice.specs.declared.plan.Plan.{Plan}
use Rattle.route_choice.specs.Paths.{key_in}
use Rattle.route_choice.specs.Kept.{KeepsBeside, holds_key, holds_rank}
use Rattle.route_choice.specs.Space.{planned_elem, HasPlace, HasHopNumber, HasSpace, HasSpaceAt}

no_key_stays : (b n : Flat) (t : PathKey) → flat_paths n ≡ flat_paths b → HasNoKey b t → HasNoKey n t
no_key_stays b n t e h = ap (lookup (is_at (key_cmp t))) e ∙ h

pub number_stays : (b n : Flat) (e : Elem) → Grows b n → HasHopNumber b e → HasHopNumber n e
number_stays b n e g h o f = let x = h o f in (x.0, g.hops x.0 o.hop x.1)

pub space_stays : (b n : Flat) (plan : Option Plan) → flat_paths n ≡ flat_paths b → Grows b n → HasSpace b plan → HasSpace n plan
space_stays b n None e g h = tt
space_stays b n (Some p) e g h = by_place p.at h
  where
    by_place : (at : Option ℕ) → MatchOption at (HasNoKey b (key_in p.elem)) (λ i. IsSlotOf b (key_in p.elem) i × HasHopNumber b p.elem) → MatchOption at (HasNoKey n (key_in p.elem)) (λ i. IsSlotOf n (key_in p.elem) i × HasHopNumber n p.elem)
    by_place None h = no_key_stays b n (key_in p.elem) e h
    by_place (Some i) h = (slot_stays b n (key_in p.elem) i g h.0, number_stays b n p.elem g h.1)

-- what is kept for a plan is kept for it as an earlier one
or_none : (a : Bool) → (a || false) ≡ a
or_none true = refl
or_none false = refl

pub kept_beside : (paths : Paths) (ranks : List Rank) → KeepsBeside paths ranks paths ranks None
kept_beside paths ranks earlier k = record {
  indexed = k.indexed;
  room = tt;
  paths_serve = λ s h. weaken (is_some _) (holds_key earlier s) (k.paths_serve s h);
  ranks_serve = λ r h. weaken (is_some _) (holds_rank earlier r) (k.ranks_serve r h);
}
  where
    weaken : (a b : Bool) → (a || b) ≡ true → (a || (b || false)) ≡ true
    weaken a b h = ap (λ x. a || x) (or_none b) ∙ h

-- room where the path key has a slot
pub made_space : (b n : Flat) (at : Option ℕ) (x : Elem) (i : ℕ) → at ≡ Some i → HasPlace b at x → Grows b n → HasHopNumber n x → HasSpaceAt n at x
made_space b n at x i e place g h = subst (λ o. MatchOption o (HasNoKey n (key_in x)) (λ j. IsSlotOf n (key_in x) j × HasHopNumber n x)) (sym e) (slot_stays b n (key_in x) i g (MatchOption-at_some _ _ _ e place), h)

pub no_slot_there : (b : Flat) (p : Plan) → p.at ≡ None → HasSpace b (Some p) → HasNoKey b (key_in p.elem)
no_slot_there b p e h = MatchOption-at_none _ _ e h

pub offers_as : (xs new : Paths) (s t : PathKey) (o p : Option PathAttrs) → s ≡ t → o ≡ p → Offers xs new s o → Offers xs new t p
offers_as xs new s t o p e a h = subst (λ r. Offers xs new r p) e (subst (Offers xs new s) a h)

-- the same after a step of the base that changes nothing
pub offers_later : (xs mid ys new : Paths) (s t : PathKey) (o p : Option PathAttrs) → mid ≡ xs → s ≡ t → o ≡ p → Offers (mid ++ ys) new s o → Offers (xs ++ ys) new t p
offers_later xs mid ys new s t o p same e a h = offers_as (xs ++ ys) new s t o p e a (subst (λ zs. Offers (zs ++ ys) new s o) same h)

-- the planned event is the pick's
pub planned_is : (room : Option Plan) (p : Plan) (e : model.Elem) → room ≡ Some p → option_map planned_elem room ≡ Some e → elem_as p.elem ≡ e
planned_is room p e h i = same_value _ _ (ap (option_map planned_elem) (sym h) ∙ i)

pub none_planned : (room : Option Plan) (e : model.Elem) → room ≡ None → option_map planned_elem room ≡ Some e → ⊥
none_planned room e h i = let x : None ≡ Some e = ap (option_map planned_elem) (sym h) ∙ i in absurd cc

pub if_some : {A : Type 0} (P : A → Type 0) (o : Option A) → ((x : A) → o ≡ Some x → P x) → IfSome o P
if_some P None h = tt
if_some P (Some x) h = h x refl

-- a step of base and maps that changes no offer
pub apart_both : (xs new ys after : Paths) → new ≡ xs → SameOffers ys after → ShareNoKey xs ys → ShareNoKey new after
apart_both xs new ys after e h a = apart_same new ys after h (under_apart xs new ys e a)
