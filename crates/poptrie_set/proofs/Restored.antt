-- Blocks that were taken are given back: the arena is as it was, but for what its free places hold.
use Rattle.std.proofs.Common.{◌≡◌, ℕ, suc, ◌^◌, ◌≤◌, List, [], ◌∷◌, ◌++◌, Bool, true, false, length, get_or, refl, sym, ap, ◌∙◌, arith, subst}
use Rattle.buddy_arena.specs.Space.{Space, IsSized}
use Rattle.buddy_arena.specs.Space as arena
use Rattle.buddy_arena.specs.Places.{is_out, since}
use Rattle.buddy_arena.specs.Arrays.{Array, AreApart, places_of}
use Rattle.buddy_arena.specs.Blocks.{Held, GivesBack, blocks_of}
use Rattle.buddy_arena.proofs.Parting.{since_not}
use Rattle.buddy_arena.proofs.Sets.{among_in, not_among}
use Rattle.path_copying.specs.Changes.{Gains}
use Rattle.poptrie_set.specs.Renewals.{GivesAllBack}
use Rattle.poptrie_set.proofs.Kept.{more_apart}

-- ---- the free places
abbrev Within : List Bool → List Bool → Type 0
Within f g = (i : ℕ) → is_out f i ≡ true → is_out g i ≡ true

fewer_free : (f g : List Bool) → length f ≡ length g → Within f g → arena.free_count g ≤ arena.free_count f
fewer_free [] [] l h = omega arith
fewer_free [] (c ∷ g) l h = absurd (omega (arith, l))
fewer_free (b ∷ f) [] l h = absurd (omega (arith, l))
fewer_free (true ∷ f) (true ∷ g) l h = let e = fewer_free f g (omega (arith, l)) (λ i q. h (suc i) q) in omega (arith, e)
fewer_free (true ∷ f) (false ∷ g) l h = let e = fewer_free f g (omega (arith, l)) (λ i q. h (suc i) q) in omega (arith, e)
fewer_free (false ∷ f) (false ∷ g) l h = let e = fewer_free f g (omega (arith, l)) (λ i q. h (suc i) q) in omega (arith, e)
fewer_free (false ∷ f) (true ∷ g) l h = absurd (let e : false ≡ true = h 0 refl in cc)

pub same_free : (f g : List Bool) → length f ≡ length g → Within f g → arena.free_count f ≡ arena.free_count g → f ≡ g
same_free [] [] l h t = refl
same_free [] (c ∷ g) l h t = absurd (omega (arith, l))
same_free (b ∷ f) [] l h t = absurd (omega (arith, l))
same_free (true ∷ f) (true ∷ g) l h t = ap (λ (x : List Bool). true ∷ x) (same_free f g (omega (arith, l)) (λ i q. h (suc i) q) (omega (arith, t)))
same_free (true ∷ f) (false ∷ g) l h t = absurd (let e = fewer_free f g (omega (arith, l)) (λ i q. h (suc i) q) in omega (arith, e, t))
same_free (false ∷ f) (false ∷ g) l h t = ap (λ (x : List Bool). false ∷ x) (same_free f g (omega (arith, l)) (λ i q. h (suc i) q) (omega (arith, t)))
same_free (false ∷ f) (true ∷ g) l h t = absurd (let e : false ≡ true = h 0 refl in cc)

-- ---- what was taken
pub taken_is : {T : Type 0} (e : T) (s m : Space T) (a b : Held) → a.taken ≡ [] → (g : Gains e s a m b) → g.more ≡ b.taken
taken_is e s m a b none g = sym (g.taken ∙ ap (λ (x : List Array). x ++ g.more) none)

pub restored : {T : Type 0} (e : T) (s m t : Space T) (a b : Held) → a.taken ≡ [] → IsSized s → Gains e s a m b → GivesBack b.taken m t → IsSized t → GivesAllBack e s t
restored e s m t a b none sized g back sized2 =
    let apart = subst (λ (x : List Array). AreApart (since (is_out s.free) (is_out m.free)) x) (taken_is e s m a b none g) g.apart in
    let still : (i : ℕ) → is_out s.free i ≡ true → is_out t.free i ≡ true = λ i q. back.still i (g.keeps.still i q) (not_among b.taken i (λ z. let f = since_not (is_out s.free i) (is_out m.free i) (among_in (since (is_out s.free) (is_out m.free)) b.taken i apart z) in cc)) in
    let order : t.order ≡ s.order = back.order ∙ g.order in
    let size : 2 ^ t.order ≡ 2 ^ s.order = ap (λ (n : ℕ). 2 ^ n) order in
    let places : places_of g.more ≡ places_of b.taken = ap places_of (taken_is e s m a b none g) in
    record {
      keeps = record { still = still; same = λ i q. ap (λ x. get_or x i e) back.cells ∙ g.keeps.same i q; long = ap length back.cells ∙ g.keeps.long };
      free = sym (same_free s.free t.free (omega (arith, sized.places, sized2.places, size)) still (omega (arith, g.left, back.left, places)));
      order = order;
      fill = back.fill ∙ g.fill;
      sized = sized2;
    }

-- what was taken and what is retired share no place
pub taken_held : {T : Type 0} (e : T) (s m : Space T) (a b : Held) → a.taken ≡ [] → Gains e s a m b → AreApart (is_out s.free) (blocks_of a.retired) → AreApart (is_out m.free) (b.taken ++ blocks_of b.retired)
taken_held e s m a b none g held =
    subst (λ (x : List Array). AreApart (is_out m.free) (b.taken ++ x)) (ap blocks_of (sym g.retired))
    (subst (λ (x : List Array). AreApart (is_out m.free) (x ++ blocks_of a.retired)) (taken_is e s m a b none g)
    (more_apart (is_out s.free) (is_out m.free) g.more (blocks_of a.retired) g.keeps.still g.apart held))
