-- The check of what a router was told to change: the row that it prints.
use Rattle.std.specs.Prelude.{List, ℕ, [], ◌∷◌, codes, decimal, Option, Some, None}
use Rattle.table_model.specs.Address.{Address}
use Rattle.table_model.specs.declared.family.Family.{Family}
use Rattle.fib_addr.specs.Text.{address_text, prefix_text}
use Rattle.moves_model.specs.Verdict.{NoMoves, Twice, Apply, NotSame, Shape, LeafWrong, JoinWrong, NotShortest}
use Rattle.printed_text.specs.Rows.{family_name, line}
use Rattle.moves_model.specs.Claims.{WrongMoves}
use Rattle.fib_due.specs.Checks.{verdict_hop}

-- what is wrong with the changes of a family or with its rows, in fields; both are counted within the family, and the hops have these numbers
abbrev pub no_moves_fields : List Address → Family → NoMoves → List (List ℕ)
no_moves_fields hops f (Twice p) = codes "no" ∷ codes "twice" ∷ prefix_text p ∷ []
no_moves_fields hops f (Apply n) = codes "no" ∷ codes "apply" ∷ family_name f ∷ decimal n ∷ []
no_moves_fields hops f (NotSame a want has) = codes "no" ∷ codes "notsame" ∷ address_text a ∷ verdict_hop hops want ∷ verdict_hop hops has ∷ []
no_moves_fields hops f (Shape n) = codes "no" ∷ codes "shape" ∷ family_name f ∷ decimal n ∷ []
no_moves_fields hops f (LeafWrong n) = codes "no" ∷ codes "leafwrong" ∷ family_name f ∷ decimal n ∷ []
no_moves_fields hops f (JoinWrong n said due) = codes "no" ∷ codes "joinwrong" ∷ family_name f ∷ decimal n ∷ decimal said ∷ decimal due ∷ []
no_moves_fields hops f (NotShortest changes bound) = codes "no" ∷ codes "notshortest" ∷ family_name f ∷ decimal changes ∷ decimal bound ∷ []

-- `yes`, or what is wrong
abbrev pub claim_text : List Address → Option WrongMoves → List ℕ
claim_text hops None = line (codes "yes" ∷ [])
claim_text hops (Some wrong) = line (no_moves_fields hops wrong.family wrong.no)
