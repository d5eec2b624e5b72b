-- What is written of a way into a queue, of a full queue and of a telemetry channel.
use Rattle.std.specs.Prelude.{ℕ, List, cond, codes}
use Rattle.fp_tables.specs.declared.component.Channel.{Channel}
use Rattle.fp_tables.specs.declared.component.Full.{Full}
use Rattle.fp_tables.specs.declared.component.Full.TheVariants as full
use Rattle.fp_tables.specs.declared.component.Way.{Way}
use Rattle.fp_tables.specs.declared.component.Way.TheVariants as way

abbrev pub way_word : Way → List ℕ
way_word (way.Later priority f) = codes "async"
way_word way.Sync = codes "sync"
way_word way.Guarded = codes "guarded"

abbrev pub full_word : Full → List ℕ
full_word full.Assert = codes "assert"
full_word full.Block = codes "block"
full_word full.Dropped = codes "drop"
full_word full.Hook = codes "hook"

abbrev pub update_word : Channel → List ℕ
update_word c = cond c.on_change (codes "on change") (codes "always")
