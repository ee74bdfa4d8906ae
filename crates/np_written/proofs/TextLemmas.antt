-- The texts of JSON values: that they are UTF-8, and are read as them. For crates above.
use Rattle.std.proofs.Common.{◌≡◌, ℕ, ◌≤◌, List, [], ◌++◌, Bool, true, false, IsUtf8, Option, Some, append-nil, refl, sym, ap, ◌∙◌}
use Rattle.std.specs.Option.{option_and_then}
use Rattle.json.specs.Json as json
use Rattle.json.specs.Json.{if_last}
use Rattle.json.specs.Lex.{tokens}
use Rattle.json.specs.Token.{Token}
use Rattle.json.specs.Tree as tree
use Rattle.json.specs.Tree.{HasNumbers, json_tokens}
use Rattle.json.proofs.Printed.Tokens.{tokens-print}
use Rattle.json.proofs.Printed.Trees.{ArePrintable-json_tokens, value-json_tokens}
use Rattle.serde_json.specs.Data.{Data}
use Rattle.serde_json.specs.Read.{of_json, read}
use Rattle.serde_json.specs.Written.{comma_if, compact_text, outline}
use Rattle.serde_json.proofs.Texts.{print-outline}
use Rattle.np_base.proofs.Texts.{IsUtf8-byte}

pub IsUtf8-comma : (later : Bool) (s : List ℕ) → IsUtf8 s → IsUtf8 (comma_if later ++ s)
IsUtf8-comma true s utf8 = IsUtf8-byte 44 refl s utf8
IsUtf8-comma false s utf8 = utf8

abbrev whole : Option (json.Json × List Token) → Option Data
whole parsed = option_and_then of_json (option_and_then (λ p. if_last p.0 p.1) parsed)

-- a value that does not nest deep is read of any text that has the tokens of its own, where its outline gives it
pub read-same_tokens : (value : Data) (text : List ℕ) → HasNumbers (outline value) → tree.depth (outline value) ≤ 127 → of_json (outline value) ≡ Some value →
    tokens text ≡ tokens (compact_text value) → read text ≡ Some value
read-same_tokens value text numbers shallow gives same =
    let written = json_tokens (outline value) in
    let lexed : tokens text ≡ written ++ [] =
    same ∙ ap tokens (sym (print-outline value)) ∙ tokens-print written (ArePrintable-json_tokens (outline value) numbers) ∙ sym (append-nil written) in
    ap whole (ap (json.value 127) lexed ∙ value-json_tokens (outline value) 127 [] shallow) ∙ gives
