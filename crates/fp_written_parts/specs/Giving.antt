-- Which ports members give: each port itself, and an import the ports of the imported interface. An interface that imports itself, through
-- others or not, gives none to those that import it. FPP Language Specification, "Port Interface Definitions".
use Rattle.std.specs.Prelude.{◌≡◌, ℕ, ◌<◌, List, [], ◌∷◌, ◌++◌, length, slice_get, Some}
use Rattle.fp_graph.specs.Chains.{IsOnCycle}
use Rattle.fp_written_parts.specs.declared.port.WrittenPort.{WrittenPort}
use Rattle.fp_written_parts.specs.declared.port.WrittenImport.{WrittenImport}
use Rattle.fp_written_parts.specs.declared.dictionary.WrittenCommand.{WrittenCommand}
use Rattle.fp_written_parts.specs.declared.dictionary.WrittenEvent.{WrittenEvent}
use Rattle.fp_written_parts.specs.declared.dictionary.WrittenChannel.{WrittenChannel}
use Rattle.fp_written_parts.specs.declared.dictionary.WrittenParam.{WrittenParam}
use Rattle.fp_written_parts.specs.declared.member.WrittenMatch.{WrittenMatch}
use Rattle.fp_written_parts.specs.declared.member.WrittenRunning.{WrittenRunning}
use Rattle.fp_written_parts.specs.declared.member.WrittenInterface.{WrittenInterface}
use Rattle.fp_written_parts.specs.declared.member.WrittenMember.{WrittenMember}
use Rattle.fp_written_parts.specs.declared.member.WrittenMember.TheVariants.{Port, Import, Command, Event, Channel, Param, Match, Running}

module _ (interfaces : List WrittenInterface) where
  -- the one imports the other
  pub record Imports (importer imported : ℕ) : Type 0 where
    pub written : WrittenInterface
    pub here : slice_get interfaces importer ≡ Some written
    pub k : ℕ
    pub import_ : WrittenImport
    pub member : slice_get written.members k ≡ Some (Import import_)
    pub of : import_.interface ≡ imported

  -- it imports itself, perhaps through others
  abbrev pub IsCyclic : ℕ → Type 0
  IsCyclic number = IsOnCycle Imports number

  -- a member gives a port
  pub data Gives : WrittenMember → WrittenPort → Type 0 where
    own : {p : WrittenPort} → Gives (Port p) p
    imported : {i : WrittenImport} {f : WrittenInterface} (k : ℕ) {m : WrittenMember} {p : WrittenPort}
        → slice_get interfaces i.interface ≡ Some f → (IsCyclic i.interface → ⊥) → slice_get f.members k ≡ Some m → Gives m p → Gives (Import i) p

  -- the whole list of ports that members give, in their order: in place of each import the list of its interface
  pub data GiveAll : List WrittenMember → List WrittenPort → Type 0 where
    none : GiveAll [] []
    port : {p : WrittenPort} {ms : List WrittenMember} {ps : List WrittenPort} → GiveAll ms ps → GiveAll (Port p ∷ ms) (p ∷ ps)
    import_ : {i : WrittenImport} {f : WrittenInterface} {ms : List WrittenMember} {ps qs : List WrittenPort}
        → slice_get interfaces i.interface ≡ Some f → (IsCyclic i.interface → ⊥) → GiveAll f.members ps → GiveAll ms qs → GiveAll (Import i ∷ ms) (ps ++ qs)
    cyclic : {i : WrittenImport} {ms : List WrittenMember} {ps : List WrittenPort} → IsCyclic i.interface → GiveAll ms ps → GiveAll (Import i ∷ ms) ps
    command : {c : WrittenCommand} {ms : List WrittenMember} {ps : List WrittenPort} → GiveAll ms ps → GiveAll (Command c ∷ ms) ps
    event : {e : WrittenEvent} {ms : List WrittenMember} {ps : List WrittenPort} → GiveAll ms ps → GiveAll (Event e ∷ ms) ps
    channel : {t : WrittenChannel} {ms : List WrittenMember} {ps : List WrittenPort} → GiveAll ms ps → GiveAll (Channel t ∷ ms) ps
    param : {d : WrittenParam} {ms : List WrittenMember} {ps : List WrittenPort} → GiveAll ms ps → GiveAll (Param d ∷ ms) ps
    match : {d : WrittenMatch} {ms : List WrittenMember} {ps : List WrittenPort} → GiveAll ms ps → GiveAll (Match d ∷ ms) ps
    running : {d : WrittenRunning} {ms : List WrittenMember} {ps : List WrittenPort} → GiveAll ms ps → GiveAll (Running d ∷ ms) ps

  -- a member leads to an interface on a cycle: what it gives isn't all that is wanted of it
  pub data LeadsToCycle : WrittenMember → Type 0 where
    at_once : {i : WrittenImport} → IsCyclic i.interface → LeadsToCycle (Import i)
    through : {i : WrittenImport} {f : WrittenInterface} (k : ℕ) {m : WrittenMember}
        → slice_get interfaces i.interface ≡ Some f → slice_get f.members k ≡ Some m → LeadsToCycle m → LeadsToCycle (Import i)

-- each import is of one of the interfaces
abbrev pub ImportsWithin : List WrittenInterface → List WrittenMember → Type 0
ImportsWithin interfaces members = (k : ℕ) (i : WrittenImport) → slice_get members k ≡ Some (Import i) → i.interface < length interfaces
