use Rattle.std.proofs.Common.{◌∙◌, Err, ap, sym, map}
use Rattle.std.proofs.lemmas.Result.{err_from_is_err_and}
use Rattle.fib_addr.specs.Views.{addr_as}
use Rattle.printed_text.specs.Texts.{line_texts}
use Rattle.fib_run.specs.Asking.{asks_behind}
use Rattle.fib_run.proofs.AskReading.{ends_read, whole_asks}
use Rattle.fib_run.proofs.asks.AskReader.finish.Goals as goal

pub returns-in_err-read_lines : goal.returns-in_err-read_lines
returns-in_err-read_lines c =
    let p = err_from_is_err_and c.from_residual.result c.from_residual.ensures.1 in
    λ fed s. ends_read fed _ _ _ _ _ _ c.deref.ensures.value c.in_err-read_lines.ensures (p.1 ∙ ap Err p.2) s

pub returns : goal.returns
returns c = λ fed s. whole_asks fed c.args.self s ∙ (ap (λ z. asks_behind (map addr_as c.args.self.asks.items) c.args.self.lines (line_texts z)) (sym c.deref.ensures.value) ∙ c.in_ok-read_lines.ensures.0)
