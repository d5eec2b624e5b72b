-- Values as a dictionary says them, with each number as it is. F Prime GDS JSON Dictionary Specification, "Values".
use Rattle.std.specs.Prelude.{ℤ}
use Rattle.fp_base.specs.declared.value.Value.{Value, Int, Bool as Truth, Text, Enumerated, Array', Struct', Opaque, Row_of-Value, more_of-Value, end_of-Value}
use Rattle.fp_base.specs.declared.value.Value.TheBlock as block
use Rattle.serde_json.specs.Data.{Data, null, boolean, number, string, array, object, Items, no_items, item, Members, no_members, put}
use Rattle.serde_json.specs.Find.{of_integer}
use Rattle.fp_dictionary.specs.Values.{constant_data}

-- a number of any size
abbrev pub exact_number : ℤ → Data
exact_number n = number (of_integer n)

abbrev mutual
  pub exact_value : Value → Data
  exact_value (Int n) = exact_number n
  exact_value (Truth b) = boolean b
  exact_value (Text s) = string s
  exact_value (Enumerated e c n) = constant_data e c
  exact_value (Array' m vs) = array (exact_items vs)
  exact_value (Struct' m ps) = object (exact_parts ps no_members)
  exact_value Opaque = null

  pub exact_items : {m : _} → Row_of-Value m → Items
  exact_items end_of-Value = no_items
  exact_items (more_of-Value v vs) = item (exact_value v) (exact_items vs)

  pub exact_parts : {m : _} → block.Row_of-MemberValue m → Members → Members
  exact_parts block.end_of-MemberValue members = members
  exact_parts (block.more_of-MemberValue n v ps) members = exact_parts ps (put n (exact_value v) members)
