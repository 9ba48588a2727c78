-- What a path inherits.
use Rattle.std.proofs.Common.{◌≡◌, ◌≢◌, ℕ, ◌-◌, List, Bool, sym, ap, ◌∙◌, Option}
use Rattle.std.specs.Prelude.{nat_eq}
use Rattle.std.specs.Int.{bit_at}
use Rattle.std.specs.Option.{unwrap_or}
use Rattle.table_model.specs.Bits.{bits_of}
use Rattle.table_model.specs.declared.family.Family.{Family}
use Rattle.table_model.specs.Table.{Table, hop_or, longest, root, inherit}
use Rattle.table_model.specs.Entries.{Entries, of_family, of_table}
use Rattle.table_model.specs.Regions.{above, strictly_containing, join}
use Rattle.table_model.proofs.Above.{none_above, above_cut}
use Rattle.table_model.proofs.Join.{root_join}
use Rattle.orig_tree.specs.Walk.{Walks, walks_of}
use Rattle.orig_tree.specs.declared.node.Label.TheVariants.{Entry}
use Rattle.orig_tree.proofs.Paths.{no_bits, first_bit}
use Rattle.orig_tree.proofs.Steps.{side_of, level_half, given_is}
use Rattle.orig_tree.proofs.Places.{family_is}

pub above_here : (L : Table) (left q h : ℕ) → left ≡ 0 → h ≡ above (bits_of left q) L h
above_here L left q h e = sym (ap (λ p. above p L h) (no_bits left q e) ∙ ap (λ x. hop_or h (longest x)) (none_above L))

pub above_half : (route entry : Option ℕ) (low high node : Walks) (left q h hop out : ℕ) (b : Bool) →
    walks_of route entry low high ≡ node → left ≢ 0 → b ≡ nat_eq (bit_at q (left - 1)) 1 → hop ≡ unwrap_or entry h →
    out ≡ above (bits_of (left - 1) q) (side_of b low high).entries hop → out ≡ above (bits_of left q) node.entries h
above_half route entry low high node left q h hop out b w z k e o =
    let p = bits_of (left - 1) q in
    let N = join entry low.entries high.entries in
    o ∙ sym (ap (λ (n : Walks). above (bits_of left q) n.entries h) (sym w) ∙ (ap (λ x. above x N h) (first_bit left q b z k)
    ∙ (above_cut b p N h ∙ (ap (λ x. hop_or (inherit (root N) h) (longest (strictly_containing p x))) (level_half b Entry route entry low high)
    ∙ ap (above p (side_of b low high).entries) (ap (λ y. inherit y h) (root_join entry low.entries high.entries) ∙ (given_is entry h ∙ sym e))))))

-- what a prefix inherits from a family's entries
pub above_is : (f : Family) (p s : List Bool) (L : Table) (E : Entries) (n : ℕ) → of_table f L ≡ E → p ≡ s → n ≡ above p L 0 → n ≡ above s (of_family f E) 0
above_is f p s L E n v e a = a ∙ (ap (λ x. above x L 0) e ∙ ap (λ x. above s x 0) (sym (family_is f L) ∙ ap (of_family f) v))
