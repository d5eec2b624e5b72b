-- Members of instances, as they are listed.
use Rattle.fp_tables.specs.declared.topology.Instance.{Instance}
use Rattle.serde_json.specs.Data.{Data}
use Rattle.fp_dictionary.specs.Dictionary.{Numbered}
use Rattle.fp_dictionary.specs.declared.lists.Placed.{Placed}

-- its number, and what is said of it
abbrev pub numbered : {A : Type 0} → (Instance → A → Data) → Placed A → Numbered
numbered data_of p = (p.number, data_of p.instance.now p.member.now)
