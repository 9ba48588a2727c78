-- What is written of a row is read again.
use Rattle.std.proofs.Common.{◌≡◌, ℕ, List, [], ◌∷◌, Option, Result, Ok, decimal, codes, ap, ◌∙◌}
use Rattle.octet_fields.specs.Field.{◌>>=◌}
use Rattle.table_model.specs.Address.{Address, Prefix, IsPrefix}
use Rattle.fib_addr.specs.Text.{address_text, prefix_text}
use Rattle.printed_text.specs.Rows.{Announced, Vrp, PrintedRow, route_row, invalid_row, add_row, replace_row, remove_row, moves_row, answer_row, visits_row, table_row, least_row, cert_leaf_row, cert_join_row, cert_bound_row, report_row, IsRow, fields_of, count_name, family_name, hop_text, origin_text}
use Rattle.printed_text.specs.Reading.{address_field, prefix_field, number_field, hop_field, origin_field, count_field, family_field, announced_fields, vrp_fields, announced_in, printed_vrp_in, invalid_row_in, entry_in, route_row_in, answer_in, visits_in, signed_in, change_in, moves_in, join_in, bound_in, part_in, cert_in, report_in, named_in, row_in}
use Rattle.printed_text.proofs.FieldsWritten.{address_again, prefix_again, number_again, none_again, drop_again, origin_again, count_again, family_again}

-- two fields, one read after the other
both : {A B C : Type 0} (r : Result A ℕ) (s : Result B ℕ) (f : A → B → C) (x : A) (y : B) → r ≡ Ok x → s ≡ Ok y → (r >>= λ u. s >>= λ v. Ok (f u v)) ≡ Ok (f x y)
both r s f x y e g = ap (λ q. q >>= λ u. s >>= λ v. Ok (f u v)) e ∙ ap (λ q. q >>= λ v. Ok (f x v)) g

entry_again : (word text : List ℕ) (p : Prefix) (hop : Option Address) → IsPrefix p → hop_field word text ≡ Ok hop → entry_in word (prefix_text p ∷ text ∷ []) ≡ Ok (p, hop)
unfolding entry_in
entry_again word text p hop h e = both (prefix_field (prefix_text p)) (hop_field word text) (λ u v. (u, v)) p hop (prefix_again p h) e

-- one field, and what is read after it
then : {A C : Type 0} (r : Result A ℕ) (f : A → Result C ℕ) (x : A) → r ≡ Ok x → (r >>= f) ≡ f x
then r f x e = ap (λ q. q >>= f) e

announced_again : (a : Announced) (v : Vrp) → IsRow (invalid_row a v)
    → announced_in (record { prefix = prefix_text a.prefix; peer = address_text a.peer; peer_as = decimal a.peer_as; origin = origin_text a.origin }) ≡ Ok a
unfolding announced_in
announced_again a v h =
    then (prefix_field (prefix_text a.prefix)) _ a.prefix (prefix_again a.prefix h.0)
    ∙ (then (address_field (address_text a.peer)) _ a.peer (address_again a.peer h.1)
    ∙ both (number_field (decimal a.peer_as)) (origin_field (origin_text a.origin)) (λ n o. record { prefix = a.prefix; peer = a.peer; peer_as = n; origin = o }) a.peer_as a.origin (number_again a.peer_as h.2) (origin_again a.origin h.3))

vrp_again : (a : Announced) (v : Vrp) → IsRow (invalid_row a v) → printed_vrp_in (record { prefix = prefix_text v.prefix; maxlen = decimal v.maxlen; asn = decimal v.asn }) ≡ Ok v
unfolding printed_vrp_in
vrp_again a v h =
    then (prefix_field (prefix_text v.prefix)) _ v.prefix (prefix_again v.prefix h.4)
    ∙ both (number_field (decimal v.maxlen)) (number_field (decimal v.asn)) (λ m n. record { prefix = v.prefix; maxlen = m; asn = n }) v.maxlen v.asn (number_again v.maxlen h.5) (number_again v.asn h.6)

pub row_again : (row : PrintedRow) → IsRow row → row_in (fields_of row) ≡ Ok row
unfolding row_in named_in route_row_in invalid_row_in announced_fields vrp_fields answer_in visits_in signed_in change_in moves_in join_in bound_in part_in cert_in report_in
row_again (route_row p a) h = both (prefix_field (prefix_text p)) (address_field (address_text a)) route_row p a (prefix_again p h.0) (address_again a h.1)
row_again (invalid_row a v) h =
    both (announced_in (record { prefix = prefix_text a.prefix; peer = address_text a.peer; peer_as = decimal a.peer_as; origin = origin_text a.origin }))
    (printed_vrp_in (record { prefix = prefix_text v.prefix; maxlen = decimal v.maxlen; asn = decimal v.asn })) invalid_row a v (announced_again a v h) (vrp_again a v h)
row_again (add_row event p hop) h =
    ap (λ (r : Result ℕ ℕ). r >>= λ n. entry_in (codes "drop") (prefix_text p ∷ hop_text (codes "drop") hop ∷ []) >>= λ e. Ok (add_row n e.0 e.1)) (number_again event h.0)
    ∙ ap (λ r. r >>= λ e. Ok (add_row event e.0 e.1)) (entry_again (codes "drop") (hop_text (codes "drop") hop) p hop h.1 (drop_again hop h.2))
row_again (replace_row event p hop) h =
    ap (λ (r : Result ℕ ℕ). r >>= λ n. entry_in (codes "drop") (prefix_text p ∷ hop_text (codes "drop") hop ∷ []) >>= λ e. Ok (replace_row n e.0 e.1)) (number_again event h.0)
    ∙ ap (λ r. r >>= λ e. Ok (replace_row event e.0 e.1)) (entry_again (codes "drop") (hop_text (codes "drop") hop) p hop h.1 (drop_again hop h.2))
row_again (remove_row event p) h = both (number_field (decimal event)) (prefix_field (prefix_text p)) remove_row event p (number_again event h.0) (prefix_again p h.1)
row_again (moves_row event n) h = both (number_field (decimal event)) (number_field (decimal n)) moves_row event n (number_again event h.0) (number_again n h.1)
row_again (answer_row a hop) h = both (address_field (address_text a)) (hop_field (codes "none") (hop_text (codes "none") hop)) answer_row a hop (address_again a h.0) (none_again hop h.1)
row_again (visits_row a n) h = both (address_field (address_text a)) (number_field (decimal n)) visits_row a n (address_again a h.0) (number_again n h.1)
row_again (table_row p hop) h = ap (λ r. r >>= λ e. Ok (table_row e.0 e.1)) (entry_again (codes "drop") (hop_text (codes "drop") hop) p hop h.0 (drop_again hop h.1))
row_again (least_row p hop) h = ap (λ r. r >>= λ e. Ok (least_row e.0 e.1)) (entry_again (codes "drop") (hop_text (codes "drop") hop) p hop h.0 (drop_again hop h.1))
row_again (cert_leaf_row p hop) h = ap (λ r. r >>= λ e. Ok (cert_leaf_row e.0 e.1)) (entry_again (codes "none") (hop_text (codes "none") hop) p hop h.0 (none_again hop h.1))
row_again (cert_join_row p k) h = both (prefix_field (prefix_text p)) (number_field (decimal k)) cert_join_row p k (prefix_again p h.0) (number_again k h.1)
row_again (cert_bound_row f n) h = both (family_field (family_name f)) (number_field (decimal n)) cert_bound_row f n (family_again f) (number_again n h)
row_again (report_row count n) h = both (count_field (count_name count)) (number_field (decimal n)) report_row count n (count_again count) (number_again n h)
