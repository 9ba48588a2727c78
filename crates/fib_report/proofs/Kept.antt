-- Texts that are kept of next hops: one more, and what one that is found says.
use Rattle.std.proofs.Common.{◌≡◌, ℕ, zero, suc, ◌+◌, List, [], ◌∷◌, ◌++◌, Bor, true, Option, Some, None, IfSome, is_some, length, get_or, sym, ap, subst, ◌∙◌, arith, refl, length-append}
use Rattle.std.specs.Prelude.{slice_get, option_map, nat_lt}
use Rattle.std.proofs.lemmas.Bool.{ltb-true}
use Rattle.std.proofs.lemmas.Option.{none-some, same_Some, slice_get_read}
use Rattle.table_model.specs.Address.{Address, IsAddress}
use Rattle.fib_addr.specs.Hops.{hop_at}
use Rattle.fib_addr.specs.Text.{address_text}
use Rattle.fib_addr.specs.Views.{addr_as}
use Rattle.fib_addr.specs.declared.addr.Addr.{Addr}
use Rattle.printed_text.specs.Rows.{IsHop}
use Rattle.fib_report.specs.HopTexts.{AreTextsOf}
use Rattle.fib_report.proofs.Proper.{address_proper}

-- the text of the next hop behind them
pub one_more : (hops : List Address) (texts : List (List ℕ)) (hop : Address) → AreTextsOf hops texts → slice_get hops (length texts) ≡ Some hop → IsAddress hop → AreTextsOf hops (texts ++ address_text hop ∷ [])
one_more [] [] hop are there is = absurd (none-some hop there)
one_more (a ∷ hops) [] hop are there is = let same : a ≡ hop = same_Some a hop there in (ap address_text (sym same), subst IsAddress (sym same) is, tt)
one_more [] (text ∷ texts) hop are there is = absurd are
one_more (a ∷ hops) (text ∷ texts) hop are there is = (are.0, are.1, one_more hops texts hop are.2 there is)

-- a text that is found is that of the hop there
pub found_text : (hops : List Address) (texts : List (List ℕ)) (place : ℕ) (text : List ℕ) → AreTextsOf hops texts → slice_get texts place ≡ Some text → option_map address_text (slice_get hops place) ≡ Some text
found_text hops [] place text are found = absurd (none-some text found)
found_text [] (t ∷ texts) place text are found = absurd are
found_text (a ∷ hops) (t ∷ texts) zero text are found = ap Some (sym are.0 ∙ same_Some t text found)
found_text (a ∷ hops) (t ∷ texts) (suc place) text are found = found_text hops texts place text are.2 found

pub found_hop : (hops : List Address) (texts : List (List ℕ)) (place : ℕ) (text : List ℕ) → AreTextsOf hops texts → slice_get texts place ≡ Some text → IsHop (slice_get hops place)
found_hop hops [] place text are found = absurd (none-some text found)
found_hop [] (t ∷ texts) place text are found = absurd are
found_hop (a ∷ hops) (t ∷ texts) zero text are found = are.1
found_hop (a ∷ hops) (t ∷ texts) (suc place) text are found = found_hop hops texts place text are.2 found

-- what is found at the place of a number
at_place : (texts : List (List ℕ)) (place : ℕ) (text : List ℕ) → true ≡ nat_lt place (length texts) → text ≡ get_or texts place text → slice_get texts place ≡ Some text
at_place texts place text some at = slice_get_read texts (length texts) place text refl (ltb-true place (length texts) (sym some)) at

pub kept_text : (hops : List Address) (texts : List (List ℕ)) (n place : ℕ) (r : Option (Bor (List ℕ))) → AreTextsOf hops texts → n ≡ suc place → is_some r ≡ nat_lt place (length texts) → IfSome r (λ x. x.now ≡ get_or texts place x.now)
    → IfSome r (λ x. option_map address_text (hop_at hops n) ≡ Some x.now)
kept_text hops texts n place None are e some at = tt
kept_text hops texts n place (Some x) are e some at = subst (λ m. option_map address_text (hop_at hops m) ≡ Some x.now) (sym e) (found_text hops texts place x.now are (at_place texts place x.now some at))

pub kept_hop : (hops : List Address) (texts : List (List ℕ)) (n place : ℕ) (r : Option (Bor (List ℕ))) → AreTextsOf hops texts → n ≡ suc place → is_some r ≡ nat_lt place (length texts) → IfSome r (λ x. x.now ≡ get_or texts place x.now)
    → IfSome r (λ _. IsHop (hop_at hops n))
kept_hop hops texts n place None are e some at = tt
kept_hop hops texts n place (Some x) are e some at = subst (λ m. IsHop (hop_at hops m)) (sym e) (found_hop hops texts place x.now are (at_place texts place x.now some at))

-- the text of the next hop is pushed
pub next_text : (hops : List Address) (texts new : List (List ℕ)) (place number : ℕ) (a : Addr) (text : List ℕ) → length texts ≡ place → AreTextsOf hops texts → number ≡ suc place → Some (addr_as a) ≡ hop_at hops number
    → text ≡ address_text (addr_as a) → new ≡ texts ++ text ∷ [] → (length new ≡ place + 1) × AreTextsOf hops new
next_text hops texts new place number a text long are next there is grown =
    let at : slice_get hops place ≡ Some (addr_as a) = sym (there ∙ ap (hop_at hops) next) in
    let one : AreTextsOf hops (texts ++ address_text (addr_as a) ∷ []) = one_more hops texts (addr_as a) are (ap (slice_get hops) long ∙ at) (address_proper a) in
    let same : new ≡ texts ++ address_text (addr_as a) ∷ [] = grown ∙ ap (λ t. texts ++ t ∷ []) is in
    (omega (arith, ap length same, length-append texts (address_text (addr_as a) ∷ [])), subst (AreTextsOf hops) (sym same) one)
