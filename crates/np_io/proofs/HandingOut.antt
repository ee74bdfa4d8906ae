-- A source in memory hands out the next bytes that are left. For `MemInputsInputs::read`.
use Rattle.std.proofs.Common.{◌≡◌, ℕ, ◌+◌, List, [], ◌++◌, Option, Some, take, drop, refl, sym, ap, ◌∙◌}
use Rattle.std.specs.Option.{option_map_or}
use Rattle.std.proofs.lemmas.List.{take-append-drop, drop-drop}
use Rattle.np_io.specs.declared.mem_inputs.Begun.{Begun}
use Rattle.np_io.specs.declared.held.Held.{Held}
use Rattle.np_io.specs.Prelude.{bytes_at}

-- what was left is what was handed out, and then what is left behind it
pub handed_on : (held : List Held) (begun : Option Begun) (place at n : ℕ) (into : List ℕ) → begun ≡ Some (record { place = place; at = at }) → take n into ≡ take n (drop at (bytes_at held place)) →
    Some (option_map_or (λ b. drop b.at (bytes_at held b.place)) begun []) ≡ Some (take n into ++ drop (at + n) (bytes_at held place))
handed_on held begun place at n into is_begun copied =
    let bytes = bytes_at held place in
    let parts : drop at bytes ≡ take n into ++ drop (at + n) bytes = sym (take-append-drop n (drop at bytes)) ∙ rw (drop-drop n at bytes, ← copied) refl in
    rw is_begun (ap Some parts)
