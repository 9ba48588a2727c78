-- The turns and places of changes, by the lengths that their prefixes keep.
use Rattle.std.proofs.Common.{◌≡◌, List, [], ◌∷◌, ◌++◌, length, map, refl, sym, ap, ◌∙◌, arith}
use Rattle.std.specs.List.{AllByRecursion}
use Rattle.std.proofs.lemmas.List.{map-append, length-map}
use Rattle.std.specs.Map.{keys_of}
use Rattle.table_model.specs.Width.{width}
use Rattle.table_model.specs.Address.{IsPrefix}
use Rattle.table_model.specs.Changes.{Change, Add, additions}
use Rattle.kept_model.specs.Between.{place_of}
use Rattle.kept_model.specs.Turns.{set_turn, remove_turn}
use Rattle.fib_addr.specs.declared.prefix.Prefix as code_prefix
use Rattle.fib_addr.specs.declared.entry.Entry as code_entry
use Rattle.fib_addr.specs.Views.{prefix_as, entry_as}
use Rattle.fib_addr.proofs.Parts.{length_prefix}
use Rattle.fib_delta.specs.declared.change.Change as code_change
use Rattle.fib_delta.specs.declared.change.Change.TheVariants as code
use Rattle.fib_delta.specs.Views.{change_as}
use Rattle.fib_delta.proofs.Held.{is_prefix}

-- a prefix has as many bits as it says
length_is : (p : code_prefix.Prefix) → p.len ≡ length (prefix_as p).bits
length_is p = sym (length_prefix (width p.family) p.len p.bits p.fits)

pub set_is : (p : code_prefix.Prefix) → set_turn p.family p.len ≡ set_turn p.family (length (prefix_as p).bits)
set_is p = ap (set_turn p.family) (length_is p)

pub remove_is : (p : code_prefix.Prefix) → remove_turn p.family p.len ≡ remove_turn p.family (length (prefix_as p).bits)
remove_is p = ap (remove_turn p.family) (length_is p)

has_place : (c : code_change.Change) → IsPrefix (place_of (change_as c))
has_place (code.Add p h) = is_prefix p
has_place (code.Replace p h) = is_prefix p
has_place (code.Remove p) = is_prefix p

pub have_places : (cs : List code_change.Change) → AllByRecursion IsPrefix (map place_of (map change_as cs))
have_places [] = tt
have_places (c ∷ cs) = (has_place c, have_places cs)

-- ---- entries as additions

abbrev pub added : code_entry.Entry → Change
added e = Add (prefix_as e.prefix) e.hop.0

pub additions_are : (es : List code_entry.Entry) → additions (map entry_as es) ≡ map added es
additions_are [] = refl
additions_are (e ∷ es) = ap (λ cs. added e ∷ cs) (additions_are es)

pub added_places : (es : List code_entry.Entry) → map place_of (map added es) ≡ keys_of (map entry_as es)
added_places [] = refl
added_places (e ∷ es) = ap (λ ps. prefix_as e.prefix ∷ ps) (added_places es)

pub have_added_places : (es : List code_entry.Entry) → AllByRecursion IsPrefix (map place_of (map added es))
have_added_places [] = tt
have_added_places (e ∷ es) = (is_prefix e.prefix, have_added_places es)

-- ---- the two parts of an event's changes

same_parts : (ws xs cs ds : List Change) → ws ++ xs ≡ cs ++ ds → length ws ≡ length cs → (ws ≡ cs) × (xs ≡ ds)
same_parts [] xs [] ds e l = (refl, e)
same_parts [] xs (c ∷ cs) ds e l = absurd (omega (arith, l))
same_parts (w ∷ ws) xs [] ds e l = absurd (omega (arith, l))
same_parts (w ∷ ws) xs (c ∷ cs) ds e l =
    let i : w ≡ c = cc in
    let j : ws ++ xs ≡ cs ++ ds = cc in
    let r = same_parts ws xs cs ds j (omega (arith, l)) in
    (ap (λ x. x ∷ ws) i ∙ ap (λ ys. c ∷ ys) r.0, r.1)

pub parts_are : (old front back : List code_change.Change) (repair snapshot : List Change) → old ≡ front ++ back → map change_as old ≡ repair ++ snapshot → length front ≡ length repair → (map change_as front ≡ repair) × (map change_as back ≡ snapshot)
parts_are old front back repair snapshot e f l =
    same_parts (map change_as front) (map change_as back) repair snapshot (sym (map-append change_as front back) ∙ (ap (map change_as) (sym e) ∙ f)) (length-map front change_as ∙ l)
