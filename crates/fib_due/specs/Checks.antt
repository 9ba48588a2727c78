-- The check of a printed text: what it finds wrong, and the row that it prints.
use Rattle.std.specs.Prelude.{List, ℕ, [], ◌∷◌, codes, decimal, Option, Some, None}
use Rattle.table_model.specs.Address.{Address}
use Rattle.cert_model.specs.Verdict.{No, Twice, NotSame, Shape, LeafWrong, JoinWrong, NotLeast, verdict}
use Rattle.fib_addr.specs.Hops.{hop_at}
use Rattle.fib_addr.specs.Text.{address_text, prefix_text}
use Rattle.printed_text.specs.Rows.{family_name, hop_text, line}
use Rattle.printed_text.specs.Used.{Used}

-- the first thing that is wrong with the rows of a printed text, if anything is
abbrev pub verdict_of : Used → Option No
verdict_of used = verdict used.routes used.least used.cert

-- the hop of this number, or `none`
abbrev pub verdict_hop : List Address → ℕ → List ℕ
verdict_hop hops n = hop_text (codes "none") (hop_at hops n)

-- what is wrong, in fields; the hops have these numbers
abbrev pub no_fields : List Address → No → List (List ℕ)
no_fields hops (Twice p) = codes "no" ∷ codes "twice" ∷ prefix_text p ∷ []
no_fields hops (NotSame a want has) = codes "no" ∷ codes "notsame" ∷ address_text a ∷ verdict_hop hops want ∷ verdict_hop hops has ∷ []
no_fields hops (Shape n) = codes "no" ∷ codes "shape" ∷ decimal n ∷ []
no_fields hops (LeafWrong n) = codes "no" ∷ codes "leafwrong" ∷ decimal n ∷ []
no_fields hops (JoinWrong n said due) = codes "no" ∷ codes "joinwrong" ∷ decimal n ∷ decimal said ∷ decimal due ∷ []
no_fields hops (NotLeast f entries least) = codes "no" ∷ codes "notleast" ∷ family_name f ∷ decimal entries ∷ decimal least ∷ []

-- `yes`, or what is wrong
abbrev pub verdict_text : List Address → Option No → List ℕ
verdict_text hops None = line (codes "yes" ∷ [])
verdict_text hops (Some wrong) = line (no_fields hops wrong)
