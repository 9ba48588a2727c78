use Rattle.std.proofs.Common.{◌∙◌, ap, sym, subst, rules}
use Rattle.std.specs.Prelude.{◌≡◌, ℕ, [], ◌∷◌, ◌++◌, length, Some, None, Result, Ok}
use Rattle.std.specs.List.{position}
use Rattle.fib_io.specs.declared.InFault.{InFault}
use Rattle.fib_io.specs.Files.{AllOpen, AllStand, has_name, IsOpen, ReadsContent, StandsAfter}
use Rattle.fib_io.proofs.Calls.{opened_stands}
use Rattle.fib_io.proofs.Opened.{keeps_pushed, met_pushed, named_is, opens_again, opens_first, opens_not, place_pushed}
use Rattle.fib_io.proofs.Places.{all_pushed}
use Rattle.fib_io.proofs.files.FileInputs.open_named.Goals as goal

pub returns-in-Some-clause-opened : goal.returns-in-Some-clause-opened
returns-in-Some-clause-opened g c =
    let result : Result ℕ InFault = Ok c.in-Some.i in
    opens_again c.args.name.now c.args.self.now.inputs.items c.in-Some.i (g.N.ByName.opened c.args.self.now.files) result
    (sym (ap (position (has_name c.args.name.now)) c.deref.ensures.value) ∙ sym c.in-Some.ensures)

pub invariant_of-self : goal.invariant_of-self
invariant_of-self g c =
    let content = g.N.ByName.content c.args.self.now.files in
    record {
      reading = subst (AllOpen content g.N.Reader.Seek.stream_bytes g.N.Reader.Seek.stream_position) (sym c.reserve.ensures.items) c.args.self.now.reading;
      standing = subst (AllStand g.N.Reader.ReadSeek.calls) (sym c.reserve.ensures.items) c.args.self.now.standing;
    }

pub invariant_of-self-in-Break-branch-2 : goal.invariant_of-self-in-Break-branch-2
invariant_of-self-in-Break-branch-2 g c =
    let octets = g.N.Reader.Seek.stream_bytes in
    let position = g.N.Reader.Seek.stream_position in
    record {
      reading = subst (λ content. AllOpen content octets position c.reserve.new.self.items) (sym c.open_input.ensures.same)
          (subst (AllOpen (g.N.ByName.content c.args.self.now.files) octets position) (sym c.reserve.ensures.items) c.args.self.now.reading);
      standing = subst (AllStand g.N.Reader.ReadSeek.calls) (sym c.reserve.ensures.items) c.args.self.now.standing;
    }

pub returns-in_err-input-clause-opened : goal.returns-in_err-input-clause-opened
returns-in_err-input-clause-opened g c =
    opens_not c.args.name.now c.args.self.now.inputs.items (g.N.ByName.opened c.args.self.now.files) (g.N.ByName.opened c.open_input.new.files) c.from_residual-in_err-input.result
    (sym (ap (position (has_name c.args.name.now)) c.deref.ensures.value) ∙ sym c.in_default.ensures) c.from_residual-in_err-input.ensures.0 c.in_err-input.ensures.opened

pub invariant_of-self-2 : goal.invariant_of-self-2
invariant_of-self-2 g c =
    let octets = g.N.Reader.Seek.stream_bytes in
    let position = g.N.Reader.Seek.stream_position in
    let calls = g.N.Reader.ReadSeek.calls in
    let input = c.in_ok-input.input in
    let before = g.N.ByName.content c.args.self.now.files in
    let opened : ReadsContent before octets position input = subst (λ n. IsOpen (before n) (octets input.reader) (position input.reader) input.place) (sym c.in_ok-input.ensures.named) c.in_ok-input.ensures.reads in
    let reading : AllOpen before octets position c.reserve.new.self.items = subst (AllOpen before octets position) (sym c.reserve.ensures.items) c.args.self.now.reading in
    let standing : AllStand calls c.reserve.new.self.items = subst (AllStand calls) (sym c.reserve.ensures.items) c.args.self.now.standing in
    record {
      reading = subst (λ content. AllOpen content octets position c.push_reserved.new.self.items) (sym c.open_input.ensures.same)
          (all_pushed (ReadsContent before octets position) c.reserve.new.self.items c.push_reserved.new.self.items input c.push_reserved.ensures.items reading opened);
      standing = all_pushed (λ other. StandsAfter (calls other.reader) other.place) c.reserve.new.self.items c.push_reserved.new.self.items input c.push_reserved.ensures.items standing
          (opened_stands (calls input.reader) input.place c.in_ok-input.ensures.start c.in_ok-input.ensures.fresh);
    }

pub returns-clause-named : goal.returns-clause-named
returns-clause-named g c =
    let xs = c.args.self.now.inputs.items in
    let name = c.args.name.now in
    let input = c.in_ok-input.input in
    let none : position (has_name name) xs ≡ None = sym (ap (position (has_name name)) c.deref.ensures.value) ∙ sym c.in_default.ensures in
    let more : c.push_reserved.new.self.items ≡ xs ++ input ∷ [] = c.push_reserved.ensures.items ∙ ap (λ ys. ys ++ input ∷ []) c.reserve.ensures.items in
    place_pushed (has_name name) xs c.push_reserved.new.self.items input none more (named_is name input c.in_ok-input.ensures.named) ∙ ap Some (sym (ap length c.reserve.ensures.items) ∙ search rules)

pub returns-clause-opened : goal.returns-clause-opened
returns-clause-opened g c =
    let name = c.args.name.now in
    let result : Result ℕ InFault = Ok c.len-i.result in
    opens_first name c.args.self.now.inputs.items (g.N.ByName.opened c.args.self.now.files) (g.N.ByName.opened c.open_input.new.files) result
    (sym (ap (position (has_name name)) c.deref.ensures.value) ∙ sym c.in_default.ensures) c.in_ok-input.ensures.opened

pub returns-clause-met : goal.returns-clause-met
returns-clause-met g c =
    let xs = c.args.self.now.inputs.items in
    let name = c.args.name.now in
    let input = c.in_ok-input.input in
    met_pushed g.N.Reader.ReadSeek.calls name xs c.push_reserved.new.self.items input
    (sym (ap (position (has_name name)) c.deref.ensures.value) ∙ sym c.in_default.ensures)
    (c.push_reserved.ensures.items ∙ ap (λ ys. ys ++ input ∷ []) c.reserve.ensures.items)
    c.in_ok-input.ensures.named c.in_ok-input.ensures.fresh

pub returns-clause-kept : goal.returns-clause-kept
returns-clause-kept g c =
    let input = c.in_ok-input.input in
    keeps_pushed c.args.name.now c.args.self.now.inputs.items c.push_reserved.new.self.items input
    (c.push_reserved.ensures.items ∙ ap (λ ys. ys ++ input ∷ []) c.reserve.ensures.items) c.in_ok-input.ensures.named
