use Rattle.std.proofs.Common.{◌≡◌, [], sym, subst, unwrap_or}
use Rattle.std.specs.Prelude.{IfSome}
use Rattle.fib_due.specs.Words.{texts_of}
use Rattle.fib.proofs.Ending.{are_told, no_memory}
use Rattle.fib.proofs.outcome_of.Goals as goal

pub returns-in-Ok : goal.returns-in-Ok
returns-in-Ok g c =
    let does = c.run_fib.ensures in
    record {
      words = texts_of c.deref.result.now;
      are_told = subst (λ words. IfSome (g.C.CommandLine.words c.args.line.now) (λ given. texts_of words ≡ given)) (sym c.deref.ensures.value) c.in-Ok.ensures;
      ends = record {
        exact = does.exact;
        own = does.own;
        read = does.read;
        write = does.write;
        out = does.out;
        err = does.err;
        some = does.some;
        steps = does.steps;
        same = does.same;
        risen_input = does.risen_input;
        risen_out = does.risen_out;
        complete = does.complete;
        printed = does.printed;
        front = does.front;
        due_yes = does.due_yes;
        saves = does.saves;
        due_saves = does.due_saves;
        reads = does.reads;
      };
    }

pub returns-in-Err : goal.returns-in-Err
returns-in-Err g c =
    let told = g.C.CommandLine.words c.args.line.now in
    record {
      words = unwrap_or told [];
      are_told = are_told told;
      ends = no_memory (unwrap_or told []) (g.I.Inputs.content c.args.inputs.now) (g.I.Inputs.faults c.args.inputs.now) (g.I.Inputs.reads c.args.inputs.now) (g.O.Sink.written c.args.out.now) (g.O.Sink.faults c.args.out.now) (g.E.Sink.written c.args.err.now) (g.E.Sink.written c.tell.new.err) (g.E.Sink.faults c.args.err.now) (g.E.Sink.faults c.tell.new.err) c.tell.ensures;
    }
