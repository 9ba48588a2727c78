-- One record of a framer, read after a peer table.
use Rattle.std.specs.Prelude.{◌≡◌, ℕ, ◌+◌, ◌<◌, ◌≤◌, ◌⊎◌, List, [], length, Option, Some, None, Result, Ok, Err}
use Rattle.route_model.specs.Events.{Event}
use Rattle.wire_model.specs.declared.rule.Rule.{Rule}
use Rattle.wire_model.specs.declared.rule.Rule.TheVariants.{HeaderCut, BodyCut, TooLong}
use Rattle.wire_model.specs.Record.{Record, record_at}
use Rattle.wire_model.specs.Input.{record_in}
use Rattle.mrt_read.specs.Framing.{framer_left, framer_count, framer_refusal}
use Rattle.mrt_read.specs.declared.framer.Framer.{Framer}
use Rattle.mrt_records.specs.declared.peer_table.PeerTable.{PeerTable}
use Rattle.bgp_attrs.specs.declared.refusal.Refusal.{Refusal}
use Rattle.bgp_attrs.specs.declared.refusal.Refusal.TheVariants.{Rule as Broken, NoMemory}
use Rattle.mrt_records.specs.Views.{peers_in, told_as}
use Rattle.mrt_records.specs.declared.record.RecordTold.{RecordTold}
use Rattle.mrt_records.specs.declared.record.RecordTold.TheVariants.{Skipped}

-- the framer and the latest peer table
pub record Source : Type 0 where
  pub framer : Framer
  pub table : Option PeerTable

-- the next record was read
pub record ReadsRecord (old : Source) (told : RecordTold) (events : List Event) (new : Source) : Type 0 where
  pub read : Record
  pub front : record_at (framer_left old.framer) ≡ Ok (read, framer_left new.framer)
  pub says : record_in (peers_in old.table) read ≡ Ok (peers_in new.table, told_as told events)
  pub none : told ≡ Skipped → events ≡ []
  pub shorter : length (framer_left new.framer) < length (framer_left old.framer)
  pub counts : framer_count new.framer ≡ framer_count old.framer + 1
  pub refuses : framer_refusal new.framer ≡ None

-- nothing was taken
pub record TakesNothing (old new : Source) : Type 0 where
  pub leaves : framer_left new.framer ≡ framer_left old.framer
  pub counts : framer_count new.framer ≡ framer_count old.framer
  pub refuses : framer_refusal new.framer ≡ None
  pub table : new.table ≡ old.table

-- the next record breaks this rule
abbrev pub BreaksRule : Source → Rule → Type 0
BreaksRule old rule = ((record_at (framer_left old.framer) ≡ Err TooLong) × (rule ≡ TooLong)) ⊎ ((read : Record) × (after : List ℕ) × (record_at (framer_left old.framer) ≡ Ok (read, after)) × (record_in (peers_in old.table) read ≡ Err rule))

-- at most one record more was taken
abbrev pub TakesAtMostOne : Source → Source → Type 0
TakesAtMostOne old new = framer_count new.framer ≤ framer_count old.framer + 1

-- why nothing was read
abbrev pub NextFails : Source → Refusal → Source → Type 0
NextFails old (Broken rule) new = BreaksRule old rule × (new.table ≡ old.table) × TakesAtMostOne old new
NextFails old NoMemory new = TakesNothing old new

-- what was read of the source, and how it stands then
abbrev pub NextGoes : Source → Result (Option RecordTold) Refusal → List Event → Source → Type 0
NextGoes old (Ok (Some told)) events new = ReadsRecord old told events new
NextGoes old (Ok None) events new = TakesNothing old new × ((record_at (framer_left old.framer) ≡ Err HeaderCut) ⊎ (record_at (framer_left old.framer) ≡ Err BodyCut))
NextGoes old (Err why) events new = NextFails old why new
