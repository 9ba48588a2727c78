-- The region of a prefix in a table.
use Rattle.std.proofs.Common.{◌≡◌, ℕ, ◌+◌, ◌-◌, ◌<◌, List, [], ◌∷◌, ◌++◌, Bool, true, false, Some, None, length, length-append, drop, refl, sym, ap, ◌∙◌, arith, append_assoc}
use Rattle.std.specs.Prelude.{◌&&◌, Option, IfSome, IfNone}
use Rattle.std.proofs.lemmas.List.{length-take, length-drop}
use Rattle.table_model.specs.Bits.{bits_of, begins}
use Rattle.table_model.specs.Width.{width}
use Rattle.table_model.specs.Address.{Address, Prefix, IsAddress, IsPrefix, contains, same_family}
use Rattle.table_model.specs.declared.family.Family.{Family}
use Rattle.table_model.specs.declared.family.Family.TheVariants.{V4, V6}
use Rattle.table_model.proofs.BitLaws.{length-bits_of}
use Rattle.table_model.specs.Entries.{Entries, match_in}
use Rattle.table_model.specs.Halves.{half_at}
use Rattle.table_model.specs.Uniform.{AllGet, TwoDiffer}
use Rattle.fib_addr.specs.Views.{prefix_as}
use Rattle.fib_addr.specs.declared.prefix.Prefix as code
use Rattle.fib_addr.specs.declared.entry.Hop.{Hop}
use Rattle.fib_addr.specs.Answers.{one_answer, answers_in, bits_in}
use Rattle.fib_addr.proofs.OneAnswer.{one_answer_from}
use Rattle.fib_addr.proofs.Differing.{differ_none}
use Rattle.table_model.specs.Sets.{side}

pub prefix_length : (p : code.Prefix) → length (prefix_as p).bits ≡ p.len
prefix_length p = let m = length-take p.len (bits_of (width p.family) p.bits) in omega (arith, m, length-bits_of (width p.family) p.bits, p.fits)

pub is_prefix : (p : code.Prefix) → IsPrefix (prefix_as p)
is_prefix p = omega (arith, prefix_length p, p.fits)

pub bits_left : (p : code.Prefix) → bits_in (prefix_as p) ≡ width p.family - p.len
bits_left p = ap (λ n. width p.family - n) (prefix_length p)

pub some_left : (p : code.Prefix) → 0 < bits_in (prefix_as p) → p.len < width p.family
some_left p h = omega (arith, bits_left p)

same_function : (f g : List Bool → ℕ) → ((a : List Bool) → f a ≡ g a) → f ≡ g
same_function f g h = λ i a. h a i

pub half_answers : (L : Entries) (p q : Prefix) (b : Bool) → q ≡ half_at b p → answers_in L q ≡ side b (answers_in L p)
half_answers L p q b e =
    ap (answers_in L) e
    ∙ same_function (answers_in L (half_at b p)) (side b (answers_in L p)) (λ a. ap (λ x. match_in L (let y : Address = record { family = p.family; bits = x } in y)) (append_assoc p.bits (b ∷ []) a))

pub half_bits : (p : Prefix) (q : Prefix) (b : Bool) → 0 < bits_in p → q ≡ half_at b p → bits_in q + 1 ≡ bits_in p
half_bits p q b h e =
    ap (λ x. bits_in x + 1) e ∙ (let l = length-append p.bits (b ∷ []) in omega arith)

begins_itself : (p q : List Bool) → begins p (p ++ q) ≡ true
begins_itself [] q = refl
begins_itself (true ∷ p) q = begins_itself p q
begins_itself (false ∷ p) q = begins_itself p q

same_itself : (f : Family) → same_family f f ≡ true
same_itself V4 = refl
same_itself V6 = refl

pub all_one : (L : Entries) (p : Prefix) (h : ℕ) → IsPrefix p → AllGet L p h → one_answer (bits_in p) (answers_in L p) ≡ Some h
all_one L p h i all =
    one_answer_from (bits_in p) (answers_in L p) h
    (λ a l. all (record { family = p.family; bits = p.bits ++ a }) (omega (arith, length-append p.bits a, l, i)) (ap (λ t. t && begins p.bits (p.bits ++ a)) (same_itself p.family) ∙ begins_itself p.bits a))

rest_is : (p a : List Bool) → begins p a ≡ true → p ++ drop (length p) a ≡ a
rest_is [] [] e = refl
rest_is [] (b ∷ a) e = refl
rest_is (true ∷ p) (true ∷ a) e = ap (λ x. true ∷ x) (rest_is p a e)
rest_is (false ∷ p) (false ∷ a) e = ap (λ x. false ∷ x) (rest_is p a e)
rest_is (true ∷ p) (false ∷ a) e = cc
rest_is (false ∷ p) (true ∷ a) e = cc
rest_is (true ∷ p) [] e = cc
rest_is (false ∷ p) [] e = cc

within : (f g : Family) (x : Bool) → (same_family f g && x) ≡ true → (f ≡ g) × (x ≡ true)
within V4 V4 x e = (refl, e)
within V6 V6 x e = (refl, e)
within V4 V6 x e = cc
within V6 V4 x e = cc

at_rest : (L : Entries) (p : Prefix) (a : Address) → contains p a ≡ true → answers_in L p (drop (length p.bits) a.bits) ≡ match_in L a
at_rest L p a c =
    let w = within p.family a.family (begins p.bits a.bits) c in
    ap (λ x. match_in L (let y : Address = record { family = p.family; bits = x } in y)) (rest_is p.bits a.bits w.1)
    ∙ ap (λ f. match_in L (let y : Address = record { family = f; bits = a.bits } in y)) w.0

rest_length : (p : Prefix) (a : Address) → IsAddress a → contains p a ≡ true → length (drop (length p.bits) a.bits) ≡ bits_in p
rest_length p a i c =
    let w = within p.family a.family (begins p.bits a.bits) c in
    length-drop (length p.bits) a.bits ∙ ap (λ n. n - length p.bits) (i ∙ ap width (sym w.0))

pub two_none : (L : Entries) (p : Prefix) → TwoDiffer L p → one_answer (bits_in p) (answers_in L p) ≡ None
two_none L p t =
    differ_none (bits_in p) (answers_in L p) (
      drop (length p.bits) t.one.bits,
      drop (length p.bits) t.other.bits,
      rest_length p t.one t.is_one t.one_within,
      rest_length p t.other t.is_other t.other_within,
      λ e. t.differ (sym (at_rest L p t.one t.one_within) ∙ (e ∙ at_rest L p t.other t.other_within)),
    )

-- what a table tells of a prefix is its one answer
pub only_one : (L : Entries) (p : code.Prefix) (r : Option Hop) → IfSome r (λ h. AllGet L (prefix_as p) h.0) → IfSome r (λ h. one_answer (bits_in (prefix_as p)) (answers_in L (prefix_as p)) ≡ Some h.0)
only_one L p None a = a
only_one L p (Some h) a = all_one L (prefix_as p) h.0 (is_prefix p) a

pub only_none : (L : Entries) (p : code.Prefix) (r : Option Hop) → IfNone r (TwoDiffer L (prefix_as p)) → IfNone r (one_answer (bits_in (prefix_as p)) (answers_in L (prefix_as p)) ≡ None)
only_none L p None t = two_none L (prefix_as p) t
only_none L p (Some h) t = t
