-- The reserved words and the marks, each by its number. FPP Language Specification, "Lexical Elements": reserved words and symbols.
-- This profile: the words and marks of these two tables, and no others.
use Rattle.std.specs.Prelude.{ℕ, suc, cond, List, [], ◌∷◌, codes}
use Prim.Native.String.{String}
use Rattle.fp_base.specs.Same.{same_text}

abbrev pub words : List (List ℕ)
words =
    codes "action" ∷
    codes "active" ∷
    codes "activity" ∷
    codes "always" ∷
    codes "array" ∷
    codes "assert" ∷
    codes "async" ∷
    codes "at" ∷
    codes "base" ∷
    codes "block" ∷
    codes "bool" ∷
    codes "change" ∷
    codes "choice" ∷
    codes "command" ∷
    codes "component" ∷
    codes "connections" ∷
    codes "constant" ∷
    codes "container" ∷
    codes "cpu" ∷
    codes "default" ∷
    codes "diagnostic" ∷
    codes "dictionary" ∷
    codes "do" ∷
    codes "drop" ∷
    codes "else" ∷
    codes "enter" ∷
    codes "entry" ∷
    codes "enum" ∷
    codes "event" ∷
    codes "every" ∷
    codes "exit" ∷
    codes "external" ∷
    codes "F32" ∷
    codes "F64" ∷
    codes "false" ∷
    codes "fatal" ∷
    codes "format" ∷
    codes "get" ∷
    codes "group" ∷
    codes "guard" ∷
    codes "guarded" ∷
    codes "health" ∷
    codes "high" ∷
    codes "hook" ∷
    codes "I16" ∷
    codes "I32" ∷
    codes "I64" ∷
    codes "I8" ∷
    codes "id" ∷
    codes "if" ∷
    codes "import" ∷
    codes "include" ∷
    codes "initial" ∷
    codes "input" ∷
    codes "instance" ∷
    codes "interface" ∷
    codes "internal" ∷
    codes "locate" ∷
    codes "low" ∷
    codes "machine" ∷
    codes "match" ∷
    codes "module" ∷
    codes "omit" ∷
    codes "on" ∷
    codes "opcode" ∷
    codes "orange" ∷
    codes "output" ∷
    codes "packet" ∷
    codes "packets" ∷
    codes "param" ∷
    codes "passive" ∷
    codes "phase" ∷
    codes "port" ∷
    codes "priority" ∷
    codes "private" ∷
    codes "product" ∷
    codes "queue" ∷
    codes "queued" ∷
    codes "record" ∷
    codes "recv" ∷
    codes "red" ∷
    codes "ref" ∷
    codes "reg" ∷
    codes "request" ∷
    codes "resp" ∷
    codes "save" ∷
    codes "send" ∷
    codes "serial" ∷
    codes "set" ∷
    codes "severity" ∷
    codes "signal" ∷
    codes "size" ∷
    codes "stack" ∷
    codes "state" ∷
    codes "string" ∷
    codes "struct" ∷
    codes "sync" ∷
    codes "telemetry" ∷
    codes "text" ∷
    codes "throttle" ∷
    codes "time" ∷
    codes "topology" ∷
    codes "true" ∷
    codes "type" ∷
    codes "U16" ∷
    codes "U32" ∷
    codes "U64" ∷
    codes "U8" ∷
    codes "unmatched" ∷
    codes "update" ∷
    codes "warning" ∷
    codes "with" ∷
    codes "yellow" ∷
    []

abbrev pub marks : List (List ℕ)
marks =
    codes "(" ∷ codes ")" ∷ codes "[" ∷ codes "]" ∷ codes "{" ∷ codes "}" ∷ codes "*" ∷ codes "/" ∷ codes "+" ∷ codes "-" ∷
    codes "->" ∷ codes "," ∷ codes "." ∷ codes ":" ∷ codes ";" ∷ codes "=" ∷ []

-- the place of a text in a table, which is the table's length where it isn't there
abbrev pub place_of : List ℕ → List (List ℕ) → ℕ
place_of text [] = 0
place_of text (row ∷ rows) = cond (same_text text row) 0 (suc (place_of text rows))

-- the number of a reserved word
abbrev pub reserved : String → ℕ
reserved text = place_of (codes text) words

-- the number of a mark
abbrev pub mark : String → ℕ
mark text = place_of (codes text) marks
