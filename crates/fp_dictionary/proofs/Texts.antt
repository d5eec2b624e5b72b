-- The text of a dictionary, piece by piece.
use Rattle.std.proofs.Common.{◌≡◌, ℕ, Bool, true, false, List, [], ◌∷◌, ◌++◌, codes, refl, ap, ◌∙◌}
use Rattle.std.proofs.lemmas.List.{append_assoc}
use Rattle.serde_json.proofs.OnLiterals.{serde_json_on_literals}
use Rattle.serde_json.specs.Data.{Data, Members, member, no_members, string}
use Rattle.serde_json.specs.Written.{comma_if, compact_text, members_text}
use Rattle.fp_dictionary.specs.Objects.{list_of}
use Rattle.fp_dictionary.specs.Dictionary.{metadata, root}
use Rattle.fp_dictionary.specs.Printed.{items_printed, pieces}
use Rattle.fp_dictionary.proofs.Items.{printed_items}

-- a piece is added, and others stand behind it
pub behind : (before after piece rest : List ℕ) → after ≡ before ++ piece → after ++ rest ≡ before ++ (piece ++ rest)
behind before after piece rest h = ap (λ (o : List ℕ). o ++ rest) h ∙ append_assoc before piece rest

pub at_first : (before rest : List ℕ) → before ≡ [] → before ++ rest ≡ rest
at_first before rest h = ap (λ (o : List ℕ). o ++ rest) h

-- what stands behind an object's member
member_next : (later : Bool) (key : List ℕ) (d : Data) (ms : Members) (rest : List ℕ)
    → members_text later (member key d ms) ++ rest ≡ comma_if later ++ (compact_text (string key) ++ (58 ∷ (compact_text d ++ (members_text true ms ++ rest))))
member_next later key d ms rest =
    append_assoc (comma_if later) (compact_text (string key) ++ (58 ∷ (compact_text d ++ members_text true ms))) rest
    ∙ ap (λ (o : List ℕ). comma_if later ++ o)
    (append_assoc (compact_text (string key)) (58 ∷ (compact_text d ++ members_text true ms)) rest ∙ ap (λ (o : List ℕ). compact_text (string key) ++ (58 ∷ o)) (append_assoc (compact_text d) (members_text true ms) rest))

any_member : (later : Bool) (key : List ℕ) (d : Data) (ms : Members) (rest next : List ℕ) → members_text true ms ++ rest ≡ next
    → members_text later (member key d ms) ++ rest ≡ comma_if later ++ (compact_text (string key) ++ (58 ∷ (compact_text d ++ next)))
any_member later key d ms rest next h = member_next later key d ms rest ∙ ap (λ (o : List ℕ). comma_if later ++ (compact_text (string key) ++ (58 ∷ (compact_text d ++ o)))) h

list_closed : (ds : List Data) (next : List ℕ) → compact_text (list_of ds) ++ next ≡ 91 ∷ (items_printed false ds ++ (93 ∷ next))
list_closed ds next =
    ap (λ (o : List ℕ). 91 ∷ (o ++ next)) (printed_items false ds) ∙ ap (λ (o : List ℕ). 91 ∷ o) (append_assoc (items_printed false ds) (93 ∷ []) next)

list_member : (later : Bool) (key : List ℕ) (ds : List Data) (ms : Members) (rest next : List ℕ) → members_text true ms ++ rest ≡ next
    → members_text later (member key (list_of ds) ms) ++ rest ≡ comma_if later ++ (compact_text (string key) ++ (58 ∷ 91 ∷ (items_printed false ds ++ (93 ∷ next))))
list_member later key ds ms rest next h =
    any_member later key (list_of ds) ms rest next h ∙ ap (λ (o : List ℕ). comma_if later ++ (compact_text (string key) ++ (58 ∷ o))) (list_closed ds next)

pub root_text : (name : List ℕ) (types commands parameters events channels : List Data)
    → compact_text (root name types commands parameters events channels) ++ codes "\n"
    ≡ pieces (items_printed false commands) (items_printed false events) (compact_text (metadata name)) (items_printed false parameters) (items_printed false channels) (items_printed false types)
unfolding serde_json_on_literals
root_text name types commands parameters events channels =
    let definitions : Members = member (codes "typeDefinitions") (list_of types) no_members in
    let packets : Members = member (codes "telemetryPacketSets") (list_of []) definitions in
    let telemetry : Members = member (codes "telemetryChannels") (list_of channels) packets in
    let records : Members = member (codes "records") (list_of []) telemetry in
    let settings : Members = member (codes "parameters") (list_of parameters) records in
    let head : Members = member (codes "metadata") (metadata name) settings in
    let reports : Members = member (codes "events") (list_of events) head in
    let containers : Members = member (codes "containers") (list_of []) reports in
    ap (λ (o : List ℕ). 123 ∷ o)
    (list_member false (codes "commands") commands containers (codes "\n") _
    (list_member true (codes "containers") [] reports (codes "\n") _
    (list_member true (codes "events") events head (codes "\n") _
    (any_member true (codes "metadata") (metadata name) settings (codes "\n") _
    (list_member true (codes "parameters") parameters records (codes "\n") _
    (list_member true (codes "records") [] telemetry (codes "\n") _
    (list_member true (codes "telemetryChannels") channels packets (codes "\n") _
    (list_member true (codes "telemetryPacketSets") [] definitions (codes "\n") _ (list_member true (codes "typeDefinitions") types no_members (codes "\n") (codes "}\n") refl)))))))))
