use Rattle.fib_run.proofs.report.write_tables.Goals as goal

pub returns-clause-writes : goal.returns-clause-writes
returns-clause-writes c = record {
  listed = c.in_ok-text.text;
  aggregated = c.in_ok-text-2.text;
  table_rows = c.in_ok-text.ensures.writes;
  least_rows = c.in_ok-text-2.ensures;
  cert_rows = c.in_ok-certify.ensures.takes;
}
