-- Chains of slots stay chains.
use Rattle.std.proofs.Common.{◌≡◌, ℕ, zero, suc, ◌<◌, ◌≤◌, List, [], ◌∷◌, ◌++◌, Some, length, refl, sym, ap, subst, ◌∙◌, arith, inl, inr, length-append, length-set}
use Rattle.std.specs.Prelude.{◌≢◌, ◌⊎◌, slice_get, slice_set}
use Rattle.std.proofs.lemmas.Bool.{cases_lt}
use Rattle.std.proofs.lemmas.Option.{same_Some, slice_get_within}
use Rattle.adj_rib_in.specs.declared.slot.PathSlot.{PathSlot}
use Rattle.adj_rib_in.specs.Chains.{AreChained, no_peer, chain_end}
use Rattle.adj_rib_in.proofs.Places.{got_pushed, got_set, got_set_at}

-- with other offers at the same slots
pub chain_kept : (slots more : List PathSlot) (ends : List ℕ) → AreChained slots ends → length more ≡ length slots → ((i : ℕ) (u : PathSlot) → slice_get more i ≡ Some u → (s : PathSlot) × (slice_get slots i ≡ Some s) × (s.peer ≡ u.peer) × (s.link ≡ u.link)) → AreChained more ends
chain_kept slots more ends c n back = record {
  falls = λ i u g. let x = back i u g in subst (λ k. k ≤ i) x.3 (c.falls i x.0 x.1);
  links = λ i u t k g p e h. let x = back i u g in let y = back k t h in sym y.2 ∙ (c.links i x.0 y.0 k x.1 (λ z. p (sym x.2 ∙ z)) (x.3 ∙ e) y.1 ∙ x.2);
  passes = λ i j u t l g h p e. let x = back i u g in let y = back j t h in subst (λ k. i < k) y.3 (c.passes i j x.0 y.0 l x.1 y.1 (λ z. p (sym x.2 ∙ z)) (x.2 ∙ (e ∙ sym y.2)));
  starts = λ i u g p. let x = back i u g in subst (λ q. i < chain_end ends q) x.2 (c.starts i x.0 x.1 (λ z. p (sym x.2 ∙ z)));
  heads = λ q k u p e h. let y = back k u h in sym y.2 ∙ c.heads q k y.0 p e y.1;
  within = λ q. subst (λ k. chain_end ends q ≤ k) (sym n) (c.within q);
}

end_here : (ends : List ℕ) (q end : ℕ) → q < length ends → chain_end (slice_set ends q end) q ≡ end
end_here [] q end l = absurd (omega (arith, l))
end_here (x ∷ ends) zero end l = refl
end_here (x ∷ ends) (suc q) end l = end_here ends q end (omega (arith, l))

end_other : (ends : List ℕ) (q end p : ℕ) → (p ≡ q → ⊥) → chain_end (slice_set ends q end) p ≡ chain_end ends p
end_other [] q end p n = refl
end_other (x ∷ ends) zero end zero n = absurd (n refl)
end_other (x ∷ ends) zero end (suc p) n = refl
end_other (x ∷ ends) (suc q) end zero n = refl
end_other (x ∷ ends) (suc q) end (suc p) n = end_other ends q end p (λ e. n (ap suc e))

-- a peer's end after it was set
end_set : (ends : List ℕ) (q end p : ℕ) → q < length ends → ((p ≡ q) × (chain_end (slice_set ends q end) p ≡ end)) ⊎ ((p ≡ q → ⊥) × (chain_end (slice_set ends q end) p ≡ chain_end ends p))
end_set ends q end p l = elim (cases_lt p q) [
  | inl m ↦ inr ((λ e. omega (arith, m, e)), end_other ends q end p (λ e. omega (arith, m, e)))
  | inr m ↦ elim (cases_lt q p) [
    | inl k ↦ inr ((λ e. omega (arith, k, e)), end_other ends q end p (λ e. omega (arith, k, e)))
    | inr k ↦ let e : p ≡ q = omega (arith, m, k) in inl (e, ap (chain_end (slice_set ends q end)) e ∙ end_here ends q end l)
  ]
]

-- a slot behind all others begins its peer's chain
pub chain_pushed : (slots : List PathSlot) (ends : List ℕ) (s : PathSlot) (end : ℕ) → AreChained slots ends → s.peer < length ends → s.peer ≢ no_peer → s.link ≡ chain_end ends s.peer → end ≡ suc (length slots) → AreChained (slots ++ s ∷ []) (slice_set ends s.peer end)
chain_pushed slots ends s end c there listed link at = record {
  falls = λ i u g. elim (got_pushed slots s i u g) [
    | inl y ↦ c.falls i u y
    | inr y ↦ subst (λ (w : PathSlot). w.link ≤ i) y.1 (omega (arith, link, c.within s.peer, y.0))
  ];
  links = λ i u t k g p e h. elim (got_pushed slots s i u g) [
    | inl y ↦ elim (got_pushed slots s k t h) [
      | inl z ↦ c.links i u t k y p e z
      | inr z ↦ absurd (omega (arith, c.falls i u y, e, z.0, slice_get_within slots i u y))
    ]
    | inr y ↦
        let e2 : s.link ≡ suc k = ap (λ (w : PathSlot). w.link) y.1 ∙ e in
        elim (got_pushed slots s k t h) [
          | inl z ↦ c.heads s.peer k t listed (sym link ∙ e2) z ∙ ap (λ (w : PathSlot). w.peer) y.1
          | inr z ↦ absurd (omega (arith, c.within s.peer, link, e2, z.0))
        ]
  ];
  passes = λ i j u t l g h p e. elim (got_pushed slots s j t h) [
    | inl z ↦ elim (got_pushed slots s i u g) [
      | inl y ↦ c.passes i j u t l y z p e
      | inr y ↦ absurd (omega (arith, l, y.0, slice_get_within slots j t z))
    ]
    | inr z ↦ elim (got_pushed slots s i u g) [
      | inl y ↦
          let q : u.peer ≡ s.peer = e ∙ ap (λ (w : PathSlot). w.peer) (sym z.1) in
          let m : i < chain_end ends s.peer = subst (λ n. i < chain_end ends n) q (c.starts i u y p) in
          subst (λ (w : PathSlot). i < w.link) z.1 (subst (λ n. i < n) (sym link) m)
      | inr y ↦ absurd (omega (arith, l, y.0, z.0))
    ]
  ];
  starts = λ i u g p. elim (end_set ends s.peer end u.peer there) [
    | inl x ↦ subst (λ n. i < n) (sym x.1) (elim (got_pushed slots s i u g) [
      | inl y ↦ omega (arith, at, slice_get_within slots i u y)
      | inr y ↦ omega (arith, at, y.0)
    ])
    | inr x ↦ subst (λ n. i < n) (sym x.1) (elim (got_pushed slots s i u g) [
      | inl y ↦ c.starts i u y p
      | inr y ↦ absurd (x.0 (ap (λ (w : PathSlot). w.peer) (sym y.1)))
    ])
  ];
  heads = λ q k u p e h. elim (end_set ends s.peer end q there) [
    | inl x ↦ elim (got_pushed slots s k u h) [
      | inl y ↦ absurd (omega (arith, x.1, e, at, slice_get_within slots k u y))
      | inr y ↦ ap (λ (w : PathSlot). w.peer) (sym y.1) ∙ sym x.0
    ]
    | inr x ↦ elim (got_pushed slots s k u h) [
      | inl y ↦ c.heads q k u p (sym x.1 ∙ e) y
      | inr y ↦ absurd (omega (arith, c.within q, x.1, e, y.0))
    ]
  ];
  within = λ q. elim (end_set ends s.peer end q there) [
    | inl x ↦ omega (arith, x.1, at, length-append slots (s ∷ []))
    | inr x ↦ omega (arith, x.1, c.within q, length-append slots (s ∷ []))
  ];
}

-- a peer's last slot is dropped
pub chain_dropped : (slots : List PathSlot) (ends : List ℕ) (q h : ℕ) (s now : PathSlot) → AreChained slots ends → q ≢ no_peer → q < length ends → chain_end ends q ≡ suc h → slice_get slots h ≡ Some s → now.peer ≡ no_peer → now.link ≡ s.link → AreChained (slice_set slots h now) (slice_set ends q s.link)
chain_dropped slots ends q h s now c listed there end g0 gone kept = record {
  falls = λ i u g. elim (got_set slots h now i u g) [
    | inl y ↦ subst (λ (w : PathSlot). w.link ≤ i) y.1 (omega (arith, kept, y.0, c.falls h s g0))
    | inr y ↦ c.falls i u y
  ];
  links = λ i u t k g p e f. elim (got_set slots h now i u g) [
    | inl y ↦ absurd (p (ap (λ (w : PathSlot). w.peer) (sym y.1) ∙ gone))
    | inr y ↦ elim (got_set slots h now k t f) [
      | inl z ↦ absurd (behind i u y (sym (c.links i u s h y p (e ∙ ap suc z.0) g0) ∙ own) (omega (arith, c.falls i u y, e, z.0)))
      | inr z ↦ c.links i u t k y p e z
    ]
  ];
  passes = λ i j u t l g f p e. elim (got_set slots h now i u g) [
    | inl y ↦ absurd (p (ap (λ (w : PathSlot). w.peer) (sym y.1) ∙ gone))
    | inr y ↦ elim (got_set slots h now j t f) [
      | inl z ↦ absurd (p (e ∙ (ap (λ (w : PathSlot). w.peer) (sym z.1) ∙ gone)))
      | inr z ↦ c.passes i j u t l y z p e
    ]
  ];
  starts = λ i u g p. elim (got_set slots h now i u g) [
    | inl y ↦ absurd (p (ap (λ (w : PathSlot). w.peer) (sym y.1) ∙ gone))
    | inr y ↦ elim (end_set ends q s.link u.peer there) [
      | inl x ↦ subst (λ n. i < n) (sym x.1) (elim (cases_lt i h) [
        | inl m ↦ c.passes i h u s m y g0 p (x.0 ∙ sym own)
        | inr m ↦ elim (cases_lt h i) [
          | inl k ↦ absurd (behind i u y x.0 k)
          | inr k ↦ let w : i ≡ h = omega (arith, m, k) in absurd (self i u g p w)
        ]
      ])
      | inr x ↦ subst (λ n. i < n) (sym x.1) (c.starts i u y p)
    ]
  ];
  heads = λ r k u p e f. elim (end_set ends q s.link r there) [
    | inl x ↦ elim (got_set slots h now k u f) [
      | inl z ↦ absurd (omega (arith, c.falls h s g0, x.1, e, z.0))
      | inr z ↦ c.links h s u k g0 (λ w. listed (sym own ∙ w)) (sym x.1 ∙ e) z ∙ (own ∙ sym x.0)
    ]
    | inr x ↦ elim (got_set slots h now k u f) [
      | inl z ↦ absurd (x.0 (sym (c.heads r h s p (sym x.1 ∙ (e ∙ ap suc z.0)) g0) ∙ own))
      | inr z ↦ c.heads r k u p (sym x.1 ∙ e) z
    ]
  ];
  within = λ r. elim (end_set ends q s.link r there) [
    | inl x ↦ omega (arith, x.1, c.falls h s g0, slice_get_within slots h s g0, length-set slots h now)
    | inr x ↦ omega (arith, x.1, c.within r, length-set slots h now)
  ];
}
  where
    own : s.peer ≡ q
    own = c.heads q h s listed end g0

    -- no slot of the peer lies behind its last one
    behind : (i : ℕ) (u : PathSlot) → slice_get slots i ≡ Some u → u.peer ≡ q → h < i → ⊥
    behind i u y e l = let m : i < chain_end ends q = subst (λ n. i < chain_end ends n) e (c.starts i u y (λ w. listed (sym e ∙ w))) in omega (arith, m, end, l)

    self : (i : ℕ) (u : PathSlot) → slice_get (slice_set slots h now) i ≡ Some u → u.peer ≢ no_peer → i ≡ h → ⊥
    self i u g p e = p (ap (λ (w : PathSlot). w.peer) (same_Some u now (sym g ∙ (ap (slice_get (slice_set slots h now)) e ∙ got_set_at slots h now s g0))) ∙ gone)

-- room for one more chain
end_longer : (ends : List ℕ) (q : ℕ) → chain_end (ends ++ 0 ∷ []) q ≡ chain_end ends q
end_longer [] zero = refl
end_longer [] (suc q) = refl
end_longer (x ∷ ends) zero = refl
end_longer (x ∷ ends) (suc q) = end_longer ends q

pub chain_longer : (slots : List PathSlot) (ends : List ℕ) → AreChained slots ends → AreChained slots (ends ++ 0 ∷ [])
chain_longer slots ends c = record {
  falls = c.falls;
  links = c.links;
  passes = c.passes;
  starts = λ i s g p. subst (λ n. i < n) (sym (end_longer ends s.peer)) (c.starts i s g p);
  heads = λ q k s p e g. c.heads q k s p (sym (end_longer ends q) ∙ e) g;
  within = λ q. subst (λ n. n ≤ length slots) (sym (end_longer ends q)) (c.within q);
}

-- a peer whose chain begins somewhere has its place among the ends
pub end_there : (ends : List ℕ) (q k : ℕ) → chain_end ends q ≡ suc k → q < length ends
end_there [] q k e = absurd cc
end_there (x ∷ ends) zero k e = omega arith
end_there (x ∷ ends) (suc q) k e = let r = end_there ends q k e in omega (arith, r)
