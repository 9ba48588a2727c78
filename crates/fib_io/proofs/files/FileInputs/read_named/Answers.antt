use Rattle.std.proofs.Common.{◌∙◌, ap, sym, subst}
use Rattle.std.specs.Prelude.{◌≡◌}
use Rattle.std.specs.String.{string_bytes}
use Rattle.std.proofs.lemmas.List.Elements.{All-set}
use Rattle.std.proofs.lemmas.List.Quantifiers.{position-Some}
use Rattle.fib_io.specs.Files.{has_name, IsOpen, ReadsContent, StandsAfter}
use Rattle.fib_io.specs.Octets.{AreAt}
use Rattle.fib_io.proofs.Opened.{keeps_both, keeps_read, named_at, reads_once}
use Rattle.fib_io.proofs.Places.{of_content}
use Rattle.fib_io.proofs.files.FileInputs.read_named.Goals as goal

pub invariant_of-self : goal.invariant_of-self
invariant_of-self g c =
    let content = g.N.ByName.content c.open_named.new.self.files in
    let octets = g.N.Reader.Seek.stream_bytes in
    let position = g.N.Reader.Seek.stream_position in
    let calls = g.N.Reader.ReadSeek.calls in
    let items = c.open_named.new.self.inputs.items in
    let old = c.index_mut.result.now in
    let new = c.read_at.new.self in
    let place = position-Some (has_name c.args.name.now) items c.in_ok-i.i old c.in_ok-i.ensures.named in
    let named : ReadsContent content octets position old = subst (ReadsContent content octets position) (sym c.index_mut.ensures.value) (c.open_named.new.self.reading c.in_ok-i.i _ place.0) in
    let stood : StandsAfter (calls old.reader) old.place = subst (λ input. StandsAfter (calls input.reader) input.place) (sym c.index_mut.ensures.value) (c.open_named.new.self.standing c.in_ok-i.i _ place.0) in
    let read : IsOpen (content (string_bytes old.name)) (octets new.reader) (position new.reader) new.place = c.read_at.ensures.reads (content (string_bytes old.name)) named in
    record {
      reading = All-set (ReadsContent content octets position) items c.in_ok-i.i new
          (subst (λ n. IsOpen (content (string_bytes n)) (octets new.reader) (position new.reader) new.place) (sym c.read_at.ensures.name) read) c.open_named.new.self.reading;
      standing = All-set (λ input. StandsAfter (calls input.reader) input.place) items c.in_ok-i.i new (c.read_at.ensures.stands stood) c.open_named.new.self.standing;
    }

pub returns-in_err-read_at-clause-kept : goal.returns-in_err-read_at-clause-kept
returns-in_err-read_at-clause-kept g c =
    let items = c.open_named.new.self.inputs.items in
    keeps_both c.args.name.now c.args.self.now.inputs.items items _ c.open_named.ensures.kept
    (keeps_read c.args.name.now items c.in_ok-i.i c.index_mut.result.now c.read_at.new.self c.in_ok-i.ensures.named c.index_mut.ensures.value c.read_at.ensures.name)

pub returns-clause-told : goal.returns-clause-told
returns-clause-told g c =
    let content = g.N.ByName.content c.args.self.now.files in
    let octets = g.N.Reader.Seek.stream_bytes in
    let position = g.N.Reader.Seek.stream_position in
    let name = c.args.name.now in
    let items = c.open_named.new.self.inputs.items in
    let old = c.index_mut.result.now in
    let place = position-Some (has_name name) items c.in_ok-i.i old c.in_ok-i.ensures.named in
    let open_now : ReadsContent (g.N.ByName.content c.open_named.new.self.files) octets position old = subst (ReadsContent (g.N.ByName.content c.open_named.new.self.files) octets position) (sym c.index_mut.ensures.value) (c.open_named.new.self.reading c.in_ok-i.i _ place.0) in
    let reads : ReadsContent content octets position old = subst (λ held. ReadsContent held octets position old) c.open_named.ensures.content open_now in
    let named : string_bytes old.name ≡ name = named_at name items c.in_ok-i.i old c.in_ok-i.ensures.named c.index_mut.ensures.value in
    of_content (content name) (λ all. AreAt all c.args.at c.read_at.new.buf c.in_ok-read_at.field-0)
    (λ all is. c.in_ok-read_at.ensures.told all (subst (λ held. IsOpen held (octets old.reader) (position old.reader) old.place) (ap content named ∙ is) reads))

pub returns-clause-once : goal.returns-clause-once
returns-clause-once g c =
    let calls = g.N.Reader.ReadSeek.calls in
    let items = c.open_named.new.self.inputs.items in
    let old = c.index_mut.result.now in
    let place = position-Some (has_name c.args.name.now) items c.in_ok-i.i old c.in_ok-i.ensures.named in
    let stood : StandsAfter (calls old.reader) old.place = subst (λ input. StandsAfter (calls input.reader) input.place) (sym c.index_mut.ensures.value) (c.open_named.new.self.standing c.in_ok-i.i _ place.0) in
    reads_once calls c.args.name.now _ items c.in_ok-i.i old c.read_at.new.self c.args.at c.in_ok-read_at.field-0 c.in_ok-i.ensures.named c.index_mut.ensures.value c.read_at.ensures.name
    (c.in_ok-read_at.ensures.met stood) c.open_named.ensures.met

pub returns-clause-kept : goal.returns-clause-kept
returns-clause-kept g c =
    let items = c.open_named.new.self.inputs.items in
    keeps_both c.args.name.now c.args.self.now.inputs.items items _ c.open_named.ensures.kept
    (keeps_read c.args.name.now items c.in_ok-i.i c.index_mut.result.now c.read_at.new.self c.in_ok-i.ensures.named c.index_mut.ensures.value c.read_at.ensures.name)
