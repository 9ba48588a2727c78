use Rattle.std.proofs.Common.{refl}
use Rattle.fib_report.proofs.run_text.RunText.certificate.Goals as goal

pub returns : goal.returns
returns c = record { ready = c.in_ok-put_cert.ensures.added.at; hops = refl; text = c.in_ok-put_cert.ensures.added.text; proper = c.in_ok-put_cert.ensures.proper }
