-- What a clause sees of answers.
use Rattle.cert_model.specs.Verdict.{No}
use Rattle.cert_model.specs.Verdict as model
use Rattle.fib_addr.specs.Views.{addr_as, prefix_as}
use Rattle.cert_check.specs.declared.alike.Differ.{Differ}
use Rattle.cert_check.specs.declared.refusal.CheckError.{CheckError}
use Rattle.cert_check.specs.declared.refusal.CheckError.TheVariants as check_error
use Rattle.cert_check.specs.declared.refusal.No as code
use Rattle.cert_check.specs.declared.refusal.No.TheVariants as no

abbrev pub differ_as : Differ → No
differ_as d = model.NotSame (addr_as d.addr) d.first.0 d.second.0

abbrev pub no_as : code.No → No
no_as (no.Twice p) = model.Twice (prefix_as p)
no_as (no.NotSame a want has) = model.NotSame (addr_as a) want.0 has.0
no_as (no.Shape n) = model.Shape n
no_as (no.LeafWrong n) = model.LeafWrong n
no_as (no.JoinWrong n said due) = model.JoinWrong n said due
no_as (no.NotLeast f entries least) = model.NotLeast f entries least

-- P of what is wrong, if that is the error
abbrev pub IfNo : CheckError → (code.No → Type 0) → Type 0
IfNo (check_error.No x) P = P x
IfNo check_error.NoMemory P = Unit {0}
