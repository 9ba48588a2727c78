use Rattle.std.proofs.Common.{◌∷◌, ◌≤◌, List, [], Bool, true, length, sym, subst}
use Rattle.table_model.specs.Address.{Address}
use Rattle.route_model.specs.Choice.{Candidates}
use Rattle.kept_model.specs.Feed.{entries_of, hops_after}
use Rattle.fib_addr.specs.Hops.{most_hops}
use Rattle.fib_prefix.specs.Views.{elem_as}
use Rattle.route_choice.specs.Held.{IsChoice}
use Rattle.route_tries.specs.Sizes.{sizes_as}
use Rattle.fib_engine.specs.Held.{AreKeptNeeds, IsSound, if_loaded}
use Rattle.fib_engine.specs.Numbers.{IsNewNumber, IsOwnNumber}
use Rattle.fib_engine.proofs.Taking.{is_elem, not_over}
use Rattle.fib_engine.proofs.Staging.{plan_route}
use Rattle.fib_engine.proofs.parts.Parts.choose.Goals as goal

pub returns-clause-chosen : goal.returns-clause-chosen
returns-clause-chosen c =
    let t = c.args.self.now in
    let C = t.candidates.candidates in
    let H = t.hops.list in
    let z = sizes_as t.limits.sizes in
    let elem = elem_as c.args.elem.now in
    let s : IsSound C H true t.tables = subst (λ (b : Bool). IsSound C H b t.tables) c.requires.loaded c.requires.sound.0 in
    let k : AreKeptNeeds z (entries_of H C) t.needs = subst (λ (b : Bool). AreKeptNeeds z (if_loaded b (entries_of H C)) t.needs) c.requires.loaded c.requires.sound.1 in
    let choice = c.in_ok-choice.choice in
    let route = c.changed_route-route.result in
    let D = c.choose.new.self.candidates in
    let G = c.room.new.self.list in
    let u : IsSound D G true t.tables = subst (λ (X : Candidates). IsSound X G true t.tables) (sym c.choose.ensures.candidates) (subst (λ (hs : List Address). IsSound C hs true t.tables) (sym c.room.ensures.list) s) in
    let ch : IsChoice D elem choice = subst (λ (X : Candidates). IsChoice X elem choice) (sym c.choose.ensures.candidates) c.in_ok-choice.ensures.choice in
    let own = c.in_ok-own.own in
    let fresh : IsNewNumber G (hops_after G (elem ∷ [])) own = subst (λ (hs : List Address). IsNewNumber hs (hops_after hs (elem ∷ [])) own) (sym c.room.ensures.list) c.in_ok-own.ensures.number in
    record {
      loaded = c.requires.loaded;
      sound = u;
      kept = subst (λ (X : Candidates). AreKeptNeeds z (entries_of G X) t.needs) (sym c.choose.ensures.candidates) (subst (λ (hs : List Address). AreKeptNeeds z (entries_of hs C) t.needs) (sym c.room.ensures.list) k);
      in_room = c.in_ok-choice.ensures.room;
      choice = choice;
      chooses = ch;
      route = plan_route D G elem t.tables choice own route u (is_elem c.args.elem.now) ch fresh c.changed_route-route.ensures;
      own = subst (λ (hs : List Address). IsOwnNumber hs c.args.elem.now own) (sym c.room.ensures.list) c.in_ok-own.ensures.own;
      few = subst (λ (hs : List Address). length (hops_after hs (elem ∷ [])) ≤ most_hops) (sym c.room.ensures.list) (not_over (length (hops_after H (elem ∷ []))) c.in_ok-own.ensures.full.1);
      room = c.in_ok-room.ensures.room;
      counted = c.requires.few;
    }
