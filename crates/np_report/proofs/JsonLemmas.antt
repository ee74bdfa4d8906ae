-- Objects as `serde_json` writes them. For `JsonFormForm::line`.
use Rattle.std.proofs.Common.{◌≡◌, List, [], ◌∷◌, codes, append_assoc}
use Rattle.json.specs.Print.{print, print_from}
use Rattle.json.specs.Token.{Token, begin_object, end_object, key, string}
use Rattle.np_report.specs.Prelude.{RowText, json_object}
use Rattle.serde_json.specs.Written.{compact_text}

-- the tokens of a row
abbrev pub row_tokens : RowText → List Token
row_tokens row =
    begin_object ∷ key (codes "connections") ∷ string row.connections ∷ key (codes "destination") ∷ string row.destination ∷ key (codes "source") ∷ string row.source ∷ end_object ∷ []

-- they are written as the object is
pub object_text : (row : RowText) → print (row_tokens row) ≡ compact_text (json_object row)
unfolding print_from
object_text row = simp append_assoc
