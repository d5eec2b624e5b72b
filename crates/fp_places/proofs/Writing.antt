-- Each name in a tree is written: from the pieces of a text to its tokens, and from these to what the grammar of files yields.
use Rattle.std.proofs.Common.{◌≡◌, ℕ, List, [], ◌∷◌, Bool, true, false, cond, drop, flat_map, length, Option, Some, None, refl, sym, ap, ◌∙◌, subst, inl, inr}
use Rattle.std.specs.Prelude.{◌||◌}
use Rattle.std.specs.List.{AllByRecursion as Each}
use Rattle.fp_base.proofs.Lists.{of_contained, each_weaker}
use Rattle.fp_base.specs.declared.place.Place.{Place}
use Rattle.fp_lexer.specs.declared.token.Word.{Word}
use Rattle.fp_lexer.specs.declared.token.Word.TheVariants as word
use Rattle.fp_lexer.specs.declared.token.Token.{Token}
use Rattle.fp_lexer.specs.Bytes.{indent_at}
use Rattle.fp_lexer.specs.Newlines.{Ground, ignores, ignored, after, after_newline, is_newline, ignored_by_rest, kept}
use Rattle.fp_lexer.specs.Tokens.{Spells, Spelled, Lexeme, Cuts, Lexed, tokens_of, with_token, span_at, IsLexeme}
use Rattle.fp_tree.specs.declared.component.Part.{Part}
use Rattle.fp_tree.specs.declared.member.Member.{Member}
use Rattle.fp_tree.specs.declared.topology.TMember.{TMember}
use Rattle.fp_parse_defs.specs.Reading.{limit}
use Rattle.fp_parse_parts.specs.Files.{SpellsFile}
use Rattle.fp_parse_parts.specs.Units.{SpellsUnit, component_parts, topology_members}
use Rattle.fp_places.specs.Components.{names_in_part}
use Rattle.fp_places.specs.Topologies.{names_in_topology_member}
use Rattle.fp_places.specs.Written.{IsWritten, NamesAreWritten, PartNamesAreWritten, TopologyNamesAreWritten}
use Rattle.fp_places.proofs.SiteComponents.{parts_given}
use Rattle.fp_places.proofs.SiteTopologies.{members_given}
use Rattle.fp_places.proofs.Telling.{told}
use Rattle.fp_places.proofs.Words.{IsTold}
use Rattle.fp_places.proofs.SiteMembers.{names_of_all, all_yield}

-- newlines that don't count are left out
either_each : {A : Type 0} (P : A → Type 0) (b : Bool) (xs ys : List A) → Each P xs → Each P ys → Each P (cond b xs ys)
either_each P true xs ys h k = h
either_each P false xs ys h k = k

kept_each : (P : Token → Type 0) (here : Ground) (ts : List Token) → Each P ts → Each P (kept here ts)
kept_each P here [] h = tt
kept_each P here (t ∷ ts) h =
    let newline = kept_each P (after_newline here) ts h.1 in
    either_each P (is_newline t.what) _ _
    (either_each P (ignores here || ignored_by_rest ts) (kept (after_newline here) ts) (t ∷ kept (after_newline here) ts) newline (h.0, newline))
    (h.0, kept_each P (after here t.what) ts h.1)

-- the name of such a token is written
abbrev HasName : ℕ → List ℕ → Token → Type 0
HasName file text t = (s : List ℕ) → t.what ≡ word.Name s → IsWritten file text (record { text = s; at = t.at })

only_spelled : (indent : ℕ) (rest w s : List ℕ) → Spells indent rest w (Some (word.Name s)) → Spelled w (Some (word.Name s))
only_spelled indent rest w s (inl h) = h
only_spelled indent rest w s (inr h) = absurd h

one_written : (file : ℕ) (text : List ℕ) (p : Lexeme) (v : Word) → p.what ≡ Some v → IsLexeme text p → HasName file text (record { what = v; at = span_at file text p.from p.past })
one_written file text p v e piece s f =
    let named : p.what ≡ Some (word.Name s) = e ∙ ap (λ (u : Word). Some u) f in
    record {
      at = p.from;
      w = piece.0;
      more = piece.1.more;
      stands = piece.1.splits;
      spelled = only_spelled (indent_at text p.from) (drop p.from text) piece.0 s (subst (λ (o : Option Word). Spells (indent_at text p.from) (drop p.from text) piece.0 o) named piece.1.spelled);
      place = refl;
    }

with_written : (file : ℕ) (text : List ℕ) (p : Lexeme) (o : Option Word) (ts : List Token) → p.what ≡ o → IsLexeme text p → Each (HasName file text) ts → Each (HasName file text) (with_token o (span_at file text p.from p.past) ts)
with_written file text p None ts e piece h = h
with_written file text p (Some v) ts e piece h = (one_written file text p v e piece, h)

all_written : (file : ℕ) (text : List ℕ) (from to : ℕ) (ps : List Lexeme) → Cuts text from ps to → Each (HasName file text) (tokens_of file text ps)
all_written file text from to [] c = tt
all_written file text from to (p ∷ ps) c = with_written file text p p.what _ refl c.1 (all_written file text p.past to ps c.2)

-- nothing is said of a place
abbrev Anywhere : Place → Type 0
Anywhere place = Unit {0}

told_tokens : (file : ℕ) (text : List ℕ) (tokens : List Token) → Lexed file text tokens → Each (IsTold Anywhere (IsWritten file text)) tokens
told_tokens file text tokens (ps, c, e) =
    let has = subst (Each (HasName file text)) (sym e) (kept_each (HasName file text) ignored _ (all_written file text 0 (length text) ps c)) in
    each_weaker (HasName file text) (IsTold Anywhere (IsWritten file text)) (λ t h. record { begins = tt; named = h }) tokens has

pub written : (file : ℕ) (text : List ℕ) (tokens : List Token) (ms : List Member) → Lexed file text tokens → SpellsUnit tokens ms → NamesAreWritten file text ms
written file text tokens ms lexed spelled name there =
    let all = (all_yield Anywhere (IsWritten file text) limit limit).given tokens ms spelled (told_tokens file text tokens lexed) in
    of_contained (IsWritten file text) _ name (names_of_all Anywhere (IsWritten file text) limit limit ms all) there

part_names : (file : ℕ) (text : List ℕ) (tokens : List Token) (ps : List Part) → Lexed file text tokens → SpellsFile component_parts tokens ps → Each (IsWritten file text) (flat_map names_in_part ps)
unfolding told
part_names file text tokens ps lexed spelled =
    ((parts_given (told Anywhere (IsWritten file text) limit)).given tokens ps spelled (told_tokens file text tokens lexed)).names

pub parts_written : (file : ℕ) (text : List ℕ) (tokens : List Token) (ps : List Part) → Lexed file text tokens → SpellsFile component_parts tokens ps → PartNamesAreWritten file text ps
parts_written file text tokens ps lexed spelled name there =
    of_contained (IsWritten file text) (flat_map names_in_part ps) name (part_names file text tokens ps lexed spelled) there

topology_names : (file : ℕ) (text : List ℕ) (tokens : List Token) (ts : List TMember) → Lexed file text tokens → SpellsFile topology_members tokens ts → Each (IsWritten file text) (flat_map names_in_topology_member ts)
unfolding told
topology_names file text tokens ts lexed spelled =
    ((members_given (told Anywhere (IsWritten file text) limit)).given tokens ts spelled (told_tokens file text tokens lexed)).names

pub topology_written : (file : ℕ) (text : List ℕ) (tokens : List Token) (ts : List TMember) → Lexed file text tokens → SpellsFile topology_members tokens ts → TopologyNamesAreWritten file text ts
topology_written file text tokens ts lexed spelled name there =
    of_contained (IsWritten file text) (flat_map names_in_topology_member ts) name (topology_names file text tokens ts lexed spelled) there
